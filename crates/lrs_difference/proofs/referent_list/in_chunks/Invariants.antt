use Rattle.std.proofs.Common.{◌≡◌, ◌++◌}
use Rattle.lrs_difference.proofs.referent_list.in_chunks.Given as goal

abbrev pub invariant-loop-entry : goal.invariant-loop-entry
invariant-loop-entry l = l.chunks.rows ++ l.entry-iterator.rest.items ≡ l.fn.entries.items
