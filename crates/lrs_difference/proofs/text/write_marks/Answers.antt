use Rattle.lrs_element.specs.declared.marks.Mark.{Mark}
use Rattle.lrs_machine.specs.Lines.{mark_text}
use Rattle.lrs_difference.proofs.Words.{word_next}
use Rattle.lrs_difference.proofs.text.write_marks.Goals as goal

pub loop-i-preserved : goal.loop-i-preserved
loop-i-preserved g c =
    let none : Mark = record { chainage = 0; measure = 0 } in
    word_next mark_text c.args.marks.now c.loop-i.i none _ _ _ _ c.loop-i-test.true c.loop-i.invariant c.in_ok-write_space.ensures c.in_ok-write_mark.ensures
