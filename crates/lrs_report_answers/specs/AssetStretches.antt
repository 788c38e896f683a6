-- Where an asset lies: its canonical rows on all routes.
use Rattle.std.specs.Prelude.{◌≡◌, ℕ, List, map, Result, Err, MatchOption, filter}
use Rattle.std.specs.List.{flat_map}
use Rattle.lrs_measure.specs.Runs.{Run}
use Rattle.lrs_measure.specs.Texts.{Name}
use Rattle.lrs_events.specs.declared.side.Side.{Side}
use Rattle.lrs_events.specs.declared.span.Span.{Span}
use Rattle.lrs_events.specs.Row.Members.{is_of}
use Rattle.lrs_machine.specs.declared.image.RouteRow.{RouteRow}
use Rattle.lrs_machine.specs.Readings.{rows_of}
use Rattle.lrs_machine.specs.Register.{get, entries}
use Rattle.lrs_machine.specs.State.{State}
use Rattle.lrs_report_answers.specs.declared.fault.AskFault.{AskFault}
use Rattle.lrs_report_answers.specs.declared.rows.FoundRow.{FoundRow}
use Rattle.lrs_report_answers.specs.Answers.{UnlessMemory, asset_missing}

-- a canonical row on the route of a name
abbrev pub found_row : Name → Run Side → FoundRow
found_row route r = record { route = route; from = r.from; to = r.to; side = r.value }

-- the canonical rows of an asset on all routes, by route name and start
abbrev pub all_rows_of : State → ℕ → List FoundRow
all_rows_of s asset = flat_map (λ r. map (found_row r.0) (rows_of s r.0 asset)) (entries s.routes)

-- The answer is all rows of the asset of the number, or that there is none.
abbrev pub IsFound : State → ℕ → Result (List FoundRow) AskFault → Type 0
IsFound s asset result = MatchOption (get s.assets asset) (result ≡ Err asset_missing) (λ a. UnlessMemory (λ found. found ≡ all_rows_of s asset) result)

-- what is kept of a route

-- a row as it is answered
abbrev pub row_of_span : Name → Span → FoundRow
row_of_span route r = record { route = route; from = r.from; to = r.to; side = r.side }

-- the rows of an asset of a class on a route
abbrev pub rows_on : Name → ℕ → RouteRow → List FoundRow
rows_on class asset e = map (row_of_span e.route.name) (filter (is_of class asset) e.spans)
