use Rattle.lrs_events.proofs.Row.Gathered.{IsMerged}
use Rattle.lrs_events.proofs.rows.merger.merged.Given as goal

abbrev pub invariant-loop-row : goal.invariant-loop-row
invariant-loop-row l = IsMerged l.rows l.row-index l.out.items
