use Rattle.std.proofs.Common.{◌≡◌, map, take}
use Rattle.lrs_report_lists.specs.declared.length_lists.entries.LengthEntry.{LengthEntry}
use Rattle.lrs_report_lists.proofs.length_lists.held_assets.numbers_of.Given as goal

abbrev pub invariant-loop-entry : goal.invariant-loop-entry
invariant-loop-entry l = l.numbers.items ≡ map (λ (e : LengthEntry). e.asset) (take l.entry-index l.entries)
