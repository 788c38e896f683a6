use Rattle.std.proofs.Common.{◌≡◌, map, take}
use Rattle.lrs_store_questions.specs.PlainStores.{plain_row}
use Rattle.lrs_store_questions.proofs.plain.plain_rows.Given as goal

abbrev pub invariant-loop-row : goal.invariant-loop-row
invariant-loop-row l = l.coded.items ≡ map plain_row (take l.row-index l.rows)
