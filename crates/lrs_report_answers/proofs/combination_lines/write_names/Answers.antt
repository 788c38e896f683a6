use Rattle.std.proofs.Common.{◌∷◌, ◌++◌, [], subst}
use Rattle.std.specs.Io.KnownBytes.{Appends}
use Rattle.lrs_measure.specs.Texts.{Name}
use Rattle.lrs_report_lists.proofs.Writing.{appends_next}
use Rattle.lrs_report_answers.proofs.combination_lines.write_names.Goals as goal

pub loop-class-preserved : goal.loop-class-preserved
loop-class-preserved g c =
    let one = subst (λ (f : Name). Appends (g.W.Write.contents c.loop-class.writer) (g.W.Write.contents c.write_behind.new.writer) (f ++ 44 ∷ [])) c.bytes.ensures.text c.in_ok-write_behind.ensures in
    appends_next (λ (f : Name). f ++ 44 ∷ []) c.loop-class.class-index c.args.classes.now c.class-item.result _ _ _ c.loop-class-test.true c.class-item.is c.loop-class.invariant one
