use Rattle.std.proofs.Common.{◌≡◌, map, take}
use Rattle.lrs_events.specs.declared.part.Gone.{Gone}
use Rattle.lrs_events.specs.declared.part.Part.{Part}
use Rattle.lrs_events.proofs.ledgers.ledger.gone.Given as goal

abbrev pub invariant-loop-part : goal.invariant-loop-part
invariant-loop-part l = l.gone.items ≡ map (λ (part : Part). let g : Gone = record { part = part; abandoned = l.abandoned } in g) (take l.part-index l.parts)
