-- Where a stretch of a route begins and ends that is asked for by places.
use Rattle.std.specs.Prelude.{◌≡◌, ℕ, Option, Some, None, Result, Ok, Err, MatchResult}
use Rattle.std.specs.List.{find}
use Rattle.std.specs.Option.{option_and_then, option_map_or}
use Rattle.lrs_measure.specs.Texts.{Name}
use Rattle.lrs_position.specs.declared.expression.Expr.{Expr}
use Rattle.lrs_position.specs.declared.location.PlaceFault.{PlaceFault}
use Rattle.lrs_position.specs.Locations.{located_or_fault, snap}
use Rattle.lrs_position.specs.Translations.{alignment_of, referent_at}
use Rattle.lrs_machine.specs.declared.image.Image.{Image}
use Rattle.lrs_machine.specs.declared.image.RouteRow.{RouteRow}
use Rattle.lrs_machine.specs.declared.question.Place.{Place}
use Rattle.lrs_machine.specs.declared.question.Place.TheVariants.{Chainage, Position}
use Rattle.lrs_image.specs.Change.{is_named}
use Rattle.lrs_report_answers.specs.declared.fault.AskFault.{AskFault}
use Rattle.lrs_report_answers.specs.declared.fault.AskFault.TheVariants as asked
use Rattle.lrs_report_answers.specs.declared.stretch.End.{End}
use Rattle.lrs_report_answers.specs.declared.stretch.End.TheVariants.{From, To}
use Rattle.lrs_report_answers.specs.Answers.{route_missing}

-- an end goes to the nearest whole millimetre, a half going up
abbrev pub snapped : End → Result (ℕ × ℕ) PlaceFault → Result ℕ AskFault
snapped end (Ok x) = Ok (snap x)
snapped end (Err fault) = Err (asked.End end fault)

-- the end at a position of a route
abbrev pub end_at : End → Expr → RouteRow → Result ℕ AskFault
end_at end e row = snapped end (located_or_fault (alignment_of row.route) (referent_at row.route.refs) e)

-- the route of the name, where one is named and there
abbrev pub route_if_named : Image → Option Name → Option RouteRow
route_if_named i route = option_and_then (λ name. find (is_named name) i.routes) route

-- the chainage of an end: a chainage is meant as it is, and a position on the route that is named
abbrev pub chainage_of : Image → Option Name → End → Place → Result ℕ AskFault
chainage_of i route end (Chainage c) = Ok c
chainage_of i route end (Position e) = option_map_or (end_at end e) (route_if_named i route) (Err route_missing)

abbrev pub if_any : Result ℕ AskFault → Result (Option ℕ) AskFault
if_any (Ok c) = Ok (Some c)
if_any (Err fault) = Err fault

-- the same where an end is asked for
abbrev pub end_of : Image → Option Name → End → Option Place → Result (Option ℕ) AskFault
end_of i route end None = Ok None
end_of i route end (Some place) = if_any (chainage_of i route end place)

-- What is asked of the stretch between two ends, or the first fault of an end: that of the start, then that of the end.
abbrev pub OnStretch : {A : Type 0} → Image → Option Name → Option Place → Option Place → (Option ℕ → Option ℕ → Result A AskFault → Type 0) → Result A AskFault → Type 0
OnStretch i route from to Asked result =
    MatchResult (end_of i route From from)
    (λ first. MatchResult (end_of i route To to) (λ last. Asked first last result) (λ fault. result ≡ Err fault))
    (λ fault. result ≡ Err fault)
