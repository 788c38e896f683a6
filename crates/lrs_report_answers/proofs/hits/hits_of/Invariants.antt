use Rattle.std.proofs.Common.{◌≡◌, ◌++◌, drop}
use Rattle.std.specs.List.{filter_map}
use Rattle.lrs_report_answers.specs.Hits.{hit_by}
use Rattle.lrs_report_answers.proofs.hits.hits_of.Given as goal

abbrev pub invariant-loop-row : goal.invariant-loop-row
invariant-loop-row l = l.hits.items ++ filter_map (hit_by l.assets.rows) (drop l.row-index l.rows) ≡ filter_map (hit_by l.assets.rows) l.rows
