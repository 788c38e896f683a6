use Rattle.std.proofs.Common.{refl, subst, List, arith, ◌*◌, ◌≤◌}
use Rattle.lrs_element.specs.declared.marks.Mark.{Mark}
use Rattle.lrs_element.specs.Marks.{last_mark}
use Rattle.lrs_element.specs.Line.{AreRound, chainage_of}
use Rattle.lrs_element.proofs.LineLemmas.{within_marks, IsReadable-from, IsSome-from_and, IfSome-from_and, HasMeasure-from_measure}
use Rattle.lrs_element.proofs.marks.Marks.measure_at.Goals as goal

-- the neighbours that were found are of these marks
round_it : (c : goal.After-straight) → AreRound chainage_of c.args.self.now c.in_ok-n.n c.in_ok-n.d c.in_ok-p.p c.in_ok-p.q
round_it c = let P = λ (marks : List Mark). AreRound chainage_of marks c.in_ok-n.n c.in_ok-n.d c.in_ok-p.p c.in_ok-p.q in subst P c.list.ensures.list c.in_ok-p.ensures

pub returns-clause-some : goal.returns-clause-some
returns-clause-some c =
    let w = within_marks chainage_of (λ p q h. h.chainage) c.args.self.now c.in_ok-n.n c.in_ok-n.d _ _ c.list.ensures.marks (round_it c) in λ _. (
      λ _. IsReadable-from 0 (last_mark c.args.self.now).chainage c.args.chainage c.in_ok-n.n c.in_ok-n.d c.in_ok-n.ensures.parts.0 c.in_ok-n.ensures.parts.1 (c.in_ok-n.ensures.some.0 refl).0 (let z : 0 * c.in_ok-n.d ≤ c.in_ok-n.n = omega arith in z, w.1),
      λ _. IsSome-from_and _ _ c.straight.ensures.value,
    )

pub returns-clause-value : goal.returns-clause-value
returns-clause-value c = IfSome-from_and _ _ _ c.straight.ensures.value
    (λ v h. HasMeasure-from_measure c.args.self.now c.in_ok-p.p c.in_ok-p.q c.args.chainage v c.in_ok-n.n c.in_ok-n.d c.in_ok-n.ensures.parts.0 c.in_ok-n.ensures.parts.1 c.in_ok-n.ensures.parts.2 (round_it c) h)
