use Rattle.std.proofs.Common.{◌≡◌, map, take}
use Rattle.lrs_store_questions.specs.PlainStores.{plain_layout}
use Rattle.lrs_store_questions.proofs.plain.plain_layouts.Given as goal

abbrev pub invariant-loop-row : goal.invariant-loop-row
invariant-loop-row l = l.layouts.items ≡ map plain_layout (take l.row-index l.rows)
