use Rattle.std.proofs.Common.{rules, ◌≡◌, ◌↔◌, IsTrue, refl, subst}
use Rattle.lrs_measure.specs.Fraction.{Fraction, IsEqual, IsLowest}
use Rattle.lrs_measure.proofs.Lowest.{same_fraction}
use Rattle.lrs_measure.proofs.fraction.Frac.has_value_of.Goals as goal

pub returns-clause-value : goal.returns-clause-value
returns-clause-value c =
    let a : IsLowest c.args.self = subst IsLowest c.self.view_is c.self.invariant.lowest in
    let b : IsLowest c.args.other = subst IsLowest c.other.view_is c.other.invariant.lowest in
    let same : IsTrue c.eq.result ↔ (c.args.self ≡ c.args.other) = search rules in
    let P : Fraction → Type 0 = λ q. IsEqual c.args.self q in
    (λ t. subst P (same.0 t) refl, λ v. same.1 (same_fraction _ _ a b v))
