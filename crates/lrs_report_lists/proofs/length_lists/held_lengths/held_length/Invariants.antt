use Rattle.std.proofs.Common.{◌≡◌, ◌≤◌, take, fold}
use Rattle.lrs_report_lists.specs.Length.Parts.{longer, nothing_held, reaches}
use Rattle.lrs_report_lists.proofs.length_lists.held_lengths.held_length.Given as goal

abbrev pub invariant-loop-entry : goal.invariant-loop-entry
invariant-loop-entry l = record {
  so_far : l.counted ≡ fold (longer (reaches l.reach)) nothing_held (take l.entry-index l.entries);
  fits : l.counted.total ≤ l.counted.end;
}
