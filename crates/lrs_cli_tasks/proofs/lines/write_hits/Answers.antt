use Rattle.lrs_cli_tasks.specs.Lines.{hit_text}
use Rattle.lrs_report.proofs.Drawings.Appending.{appends_next}
use Rattle.lrs_cli_tasks.proofs.lines.write_hits.Goals as goal

pub loop-hit-preserved : goal.loop-hit-preserved
loop-hit-preserved g c =
    appends_next hit_text c.loop-hit.hit-index c.args.hits.now c.hit-item.result _ _ _ c.loop-hit-test.true c.hit-item.is c.loop-hit.invariant c.in_ok-write_hit.ensures
