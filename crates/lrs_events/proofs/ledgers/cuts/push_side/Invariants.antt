use Rattle.std.proofs.Common.{◌≡◌, ◌++◌, drop}
use Rattle.std.specs.List.{flat_map}
use Rattle.lrs_events.specs.Ledger.Cuts.{parts_from, side_parts}
use Rattle.lrs_events.proofs.ledgers.cuts.push_side.Given as goal

abbrev pub invariant-loop-run : goal.invariant-loop-run
invariant-loop-run l = l.parts.items ++ flat_map (λ run. parts_from l.edit run l.side 0 l.pieces) (drop l.run-index l.run-items) ≡ l.fn.parts.items ++ side_parts l.edit l.rows l.side l.pieces
