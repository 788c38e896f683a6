use Rattle.std.proofs.Common.{◌≡◌, ◌++◌}
use Rattle.std.specs.List.{flat_map}
use Rattle.lrs_report_answers.specs.NamedRows.{rows_on_named}
use Rattle.lrs_report_answers.proofs.asset_rows.rows_on_routes.Given as goal

abbrev pub invariant-loop-name : goal.invariant-loop-name
invariant-loop-name l = l.found.items ++ flat_map (rows_on_named l.class l.asset l.inventory.routes) l.name-iterator ≡ flat_map (rows_on_named l.class l.asset l.inventory.routes) l.names.keys
