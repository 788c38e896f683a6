use Rattle.lrs_report.proofs.Drawings.Appending.{appends_next}
use Rattle.lrs_sheet_questions.specs.Lines.{hit_line}
use Rattle.lrs_sheet_questions.proofs.lines.write_hits.Goals as goal

pub loop-hit-preserved : goal.loop-hit-preserved
loop-hit-preserved g c =
    appends_next (hit_line c.args.key) c.loop-hit.hit-index c.args.hits.now c.hit-item.result _ _ _ c.loop-hit-test.true c.hit-item.is c.loop-hit.invariant c.in_ok-write_hit.ensures
