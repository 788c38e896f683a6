-- Pieces that are compared.
use Rattle.std.proofs.Common.{◌≡◌, Bool, true, ap, ◌∙◌}
use Rattle.std.specs.Prelude.{◌&&◌, Decides, nat_eq}
use Rattle.std.specs.Cmp as cmp
use Rattle.std.proofs.lemmas.Bool.{and_parts, and_from, eqb-true, eq-eqb}
use Rattle.lrs_measure.specs.Lists.{same_bool}
use Rattle.lrs_difference.specs.Merging.{same_piece}
use Rattle.lrs_difference.proofs.Same.{Tells, bools}

pub pieces : Tells same_piece
pieces p q = (
  (λ t.
      let one = and_parts (nat_eq p.link q.link && nat_eq p.from q.from && nat_eq p.to q.to) (same_bool p.forward q.forward) t in
      let two = and_parts (nat_eq p.link q.link && nat_eq p.from q.from) (nat_eq p.to q.to) one.0 in
      let three = and_parts (nat_eq p.link q.link) (nat_eq p.from q.from) two.0 in
      let a = eqb-true p.link q.link three.0 in
      let b = eqb-true p.from q.from three.1 in
      let c = eqb-true p.to q.to two.1 in
      let d = (bools p.forward q.forward).0 one.1 in
      λ i. record { link = a i; from = b i; to = c i; forward = d i }),
  λ e.
      and_from (nat_eq p.link q.link && nat_eq p.from q.from && nat_eq p.to q.to) (same_bool p.forward q.forward)
      (and_from (nat_eq p.link q.link && nat_eq p.from q.from) (nat_eq p.to q.to)
      (and_from (nat_eq p.link q.link) (nat_eq p.from q.from) (eq-eqb p.link q.link (ap (λ x. x.link) e)) (eq-eqb p.from q.from (ap (λ x. x.from) e)))
      (eq-eqb p.to q.to (ap (λ x. x.to) e)))
      ((bools p.forward q.forward).1 (ap (λ x. x.forward) e)),
)

-- two tests of one thing have one answer
pub one_answer : {P : Type 0} (r s t : Bool) → r ≡ s → (s ≡ true → P) × (P → s ≡ true) → Decides t P → r ≡ t
one_answer r s t e f g = e ∙ cmp.both_ways s t (λ h. g.1 (f.0 h)) (λ h. f.1 (g.0 h))
