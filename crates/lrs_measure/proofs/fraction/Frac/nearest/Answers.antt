use Rattle.std.proofs.Common.{◌≡◌, pos, ◌+ℤ◌, arith, to_z, of_z, ap}
use Rattle.std.specs.Int.{w128}
use Rattle.std.proofs.lemmas.Int.{ints}
use Rattle.lrs_measure.specs.Fraction.{Fraction}
use Rattle.lrs_measure.proofs.Floor.{nearest_up}
use Rattle.lrs_measure.proofs.fraction.Frac.nearest.Goals as goal

pub returns-then-rest-self : goal.returns-then-rest-self
returns-then-rest-self c =
    let e : to_z w128 (of_z w128 (to_z w128 (of_z w128 c.split-down.result.0) +ℤ pos 1)) ≡ c.split-down.result.0 +ℤ pos 1 = omega (arith, ints) in
    let d : c.self.inside.den ≡ c.args.self.den = ap (λ (q : Fraction). q.den) c.self.view_is in
    rw e (nearest_up _ _ _ c.split-down.result.1 c.split-down.ensures.value c.split-down.ensures.rest (omega arith))
