use Rattle.std.proofs.Common.{◌≡◌, map, take}
use Rattle.sqlite.specs.Opening.{unrooted}
use Rattle.lrs_store_questions.proofs.files.fronts_of.Given as goal

abbrev pub invariant-loop-row : goal.invariant-loop-row
invariant-loop-row l = l.fronts.items ≡ map unrooted (take l.row-index l.rows)
