use Rattle.lrs_events.proofs.Ledger.Walked.{Walked}
use Rattle.lrs_events.proofs.ledgers.cuts.push_parts.Given as goal

abbrev pub invariant-loop-i : goal.invariant-loop-i
invariant-loop-i l = Walked l.edit l.run l.side l.fn.parts.items l.parts.items l.pieces l.i
