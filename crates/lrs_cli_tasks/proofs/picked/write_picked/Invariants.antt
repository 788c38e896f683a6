use Rattle.std.proofs.Common.{length}
use Rattle.lrs_cli_tasks.proofs.Picking.{HasPicked}
use Rattle.lrs_cli_tasks.proofs.picked.write_picked.Given as goal

abbrev pub invariant-lines : goal.invariant-lines
invariant-lines g l = HasPicked l.places l.text l.rest (g.W.Write.contents l.fn.writer) (g.W.Write.contents l.writer)

abbrev pub decreases-lines : goal.decreases-lines
decreases-lines g l = length l.rest
