use Rattle.std.proofs.Common.{◌++◌, map, drop, ap, sym, ◌∙◌, arith}
use Rattle.std.proofs.lemmas.Grind.{common_steps}
use Rattle.lrs_element.specs.declared.marks.Mark.{Mark}
use Rattle.lrs_element.specs.Lines.{moved_on}
use Rattle.lrs_element.specs.Marks.{first_mark}
use Rattle.lrs_element.proofs.Lining.{in_bounds, first_mark_is, map_done}
use Rattle.lrs_element.proofs.marks.joined_marks.Goals as goal

pub moved-requires-clause-chainage : goal.moved-requires-clause-chainage
moved-requires-clause-chainage c = let b = (in_bounds c.args.second.now c.requires.second).chainage c.loop-i.i c.loop-i-test.true in rw c.last_mark-end.ensures (omega (arith, b, c.requires.length))

pub moved-requires-clause-measure : goal.moved-requires-clause-measure
moved-requires-clause-measure c =
    let s = in_bounds c.args.second.now c.requires.second in
    let f = in_bounds c.args.first.now c.requires.first in
    let b = s.below c.loop-i.i c.loop-i-test.true in
    rw c.last_mark-end.ensures (omega (arith, b, s.small, f.small))

pub moved-requires-clause-rises : goal.moved-requires-clause-rises
moved-requires-clause-rises c = let b = (in_bounds c.args.second.now c.requires.second).above c.loop-i.i c.loop-i-test.true in omega (arith, b)

pub returns : goal.returns
returns c = map_done _ c.args.second.now c.loop-i.i _ _ c.loop-i-test.false c.loop-i.invariant
    ∙ ap (λ (m : Mark). c.args.first.now ++ map (moved_on c.last_mark-end.result m) (drop 1 c.args.second.now)) (sym (first_mark_is c.args.second.now))
    ∙ ap (λ (m : Mark). c.args.first.now ++ map (moved_on m (first_mark c.args.second.now)) (drop 1 c.args.second.now)) c.last_mark-end.ensures

pub loop-i-preserved : goal.loop-i-preserved
loop-i-preserved c = grind (arith, common_steps)
