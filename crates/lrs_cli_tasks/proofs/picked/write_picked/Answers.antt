use Rattle.lrs_cli_tasks.proofs.Picking.{more_picked}
use Rattle.lrs_cli_tasks.proofs.picked.write_picked.Goals as goal

pub lines-preserved : goal.lines-preserved
lines-preserved g c =
    more_picked c.args.places.now c.args.text.now c.lines.rest.now c.cut_at.result.0.now c.in-Some.more.now _ _ _ _ c.lines.invariant c.in_ok-write_line.ensures c.in_ok-write_all.ensures.bytes
    (rw c.in-Some.is at c.cut_at.ensures.more)
