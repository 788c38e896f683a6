use Rattle.std.proofs.Common.{◌≡◌, ℕ, ◌<◌, true, get_or}
use Rattle.lrs_report_lists.specs.declared.length_lists.entries.LengthEntry.{LengthEntry}
use Rattle.lrs_report_lists.specs.Length.Parts.{is_entry_of}
use Rattle.lrs_report_lists.proofs.length_lists.table.count_alike.Given as goal

abbrev pub invariant-loop-i : goal.invariant-loop-i
invariant-loop-i l = (k : ℕ) (d : LengthEntry) → k < l.i → is_entry_of l.first.class l.first.value (get_or l.entries k d) ≡ true
