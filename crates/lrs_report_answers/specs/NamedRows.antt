-- The rows of an asset on routes that are named.
use Rattle.std.specs.Prelude.{ℕ, List, []}
use Rattle.std.specs.List.{find}
use Rattle.std.specs.Option.{option_map_or}
use Rattle.lrs_measure.specs.Texts.{Name}
use Rattle.lrs_machine.specs.declared.image.RouteRow.{RouteRow}
use Rattle.lrs_image.specs.Change.{is_named}
use Rattle.lrs_report_answers.specs.declared.rows.FoundRow.{FoundRow}
use Rattle.lrs_report_answers.specs.AssetStretches.{rows_on}

-- the rows of an asset of a class on the route of a name
abbrev pub rows_on_named : Name → ℕ → List RouteRow → Name → List FoundRow
rows_on_named class asset routes name = option_map_or (rows_on class asset) (find (is_named name) routes) []
