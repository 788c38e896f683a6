use Rattle.std.proofs.Common.{◌≡◌, ◌++◌}
use Rattle.lrs_image.proofs.lists.copies_of.Given as goal

abbrev pub invariant-loop-row : goal.invariant-loop-row
invariant-loop-row g l = l.rows.items ++ l.row-iterator ≡ l.chunks.rows
