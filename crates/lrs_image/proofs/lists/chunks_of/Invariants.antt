use Rattle.std.proofs.Common.{◌≡◌, ◌++◌}
use Rattle.lrs_image.proofs.lists.chunks_of.Given as goal

abbrev pub invariant-loop-row : goal.invariant-loop-row
invariant-loop-row g l = l.chunks.rows ++ l.row-iterator.rest.items ≡ l.fn.rows.items
