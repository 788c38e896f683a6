use Rattle.std.proofs.Common.{refl, subst, List}
use Rattle.lrs_element.specs.declared.marks.Mark.{Mark}
use Rattle.lrs_element.specs.Marks.{first_mark, last_mark}
use Rattle.lrs_element.specs.Line.{AreRound, measure_of}
use Rattle.lrs_element.proofs.LineLemmas.{within_marks, IsReadable-from, IsSome-from_and, IfSome-from_and, HasMeasure-from_chainage}
use Rattle.lrs_element.proofs.marks.Marks.chainage_at.Goals as goal

-- the neighbours that were found are of these marks
round_it : (c : goal.After-straight) → AreRound measure_of c.args.self.now c.in_ok-n.n c.in_ok-n.d c.in_ok-p.p c.in_ok-p.q
round_it c = let P = λ (marks : List Mark). AreRound measure_of marks c.in_ok-n.n c.in_ok-n.d c.in_ok-p.p c.in_ok-p.q in subst P c.list.ensures.list c.in_ok-p.ensures

pub returns-clause-some : goal.returns-clause-some
returns-clause-some c =
    let w = within_marks measure_of (λ p q h. h.measure) c.args.self.now c.in_ok-n.n c.in_ok-n.d _ _ c.list.ensures.marks (round_it c) in λ _. (
      λ _. IsReadable-from (first_mark c.args.self.now).measure (last_mark c.args.self.now).measure c.args.measure c.in_ok-n.n c.in_ok-n.d c.in_ok-n.ensures.parts.0 c.in_ok-n.ensures.parts.1 (c.in_ok-n.ensures.some.0 refl).0 w,
      λ _. IsSome-from_and _ _ c.straight.ensures.value,
    )

pub returns-clause-value : goal.returns-clause-value
returns-clause-value c = IfSome-from_and _ _ _ c.straight.ensures.value
    (λ v h. HasMeasure-from_chainage c.args.self.now c.in_ok-p.p c.in_ok-p.q c.args.measure v c.in_ok-n.n c.in_ok-n.d c.in_ok-n.ensures.parts.0 c.in_ok-n.ensures.parts.1 c.in_ok-n.ensures.parts.2 (round_it c) h)
