-- Where a spot is: on which route, and how far along it.
use Rattle.std.specs.Prelude.{ℕ, ◌-◌, min, nat_eq, nat_lt, if◌then◌else◌, length, Option, Result, Ok, Err}
use Rattle.std.specs.List.{find}
use Rattle.std.specs.Option.{option_map, option_map_or, option_and_then, ok_or}
use Rattle.lrs_measure.specs.Texts.{Name}
use Rattle.lrs_position.specs.declared.location.PlaceFault.{PlaceFault}
use Rattle.lrs_position.specs.Locations.{cell, located_or_fault}
use Rattle.lrs_position.specs.Translations.{alignment_of, referent_at}
use Rattle.lrs_element.specs.declared.link.Link.{Link}
use Rattle.lrs_element.specs.Course.{Millimetre, chainage_on, runs_over}
use Rattle.lrs_machine.specs.declared.image.Image.{Image}
use Rattle.lrs_machine.specs.declared.image.RouteRow.{RouteRow}
use Rattle.lrs_image.specs.Change.{is_named}
use Rattle.lrs_machine.specs.declared.absence.Missing.{Missing}
use Rattle.lrs_machine.specs.declared.absence.Missing.TheVariants as missing
use Rattle.lrs_machine.specs.declared.question.AskedPlace.{AskedPlace}
use Rattle.lrs_machine.specs.declared.question.AskedPlace.TheVariants.{OnRoute, OnLink}
use Rattle.lrs_machine.specs.declared.question.Place.{Place}
use Rattle.lrs_machine.specs.declared.question.Place.TheVariants.{Chainage, Position}
use Rattle.lrs_report_answers.specs.declared.fault.AskFault.{AskFault}
use Rattle.lrs_report_answers.specs.declared.fault.AskFault.TheVariants as asked

-- a route, and a chainage of it
abbrev pub Spot : Type 0
Spot = RouteRow × ℕ

-- a position stands in its millimetre
abbrev pub in_cell : RouteRow → Result (ℕ × ℕ) PlaceFault → Result Spot AskFault
in_cell e (Ok x) = Ok (e, cell (length e.route.course) x)
in_cell e (Err fault) = Err (asked.Place fault)

-- a place of a route: a chainage from 0 to its length, or a position
abbrev pub spot_at : Place → RouteRow → Result Spot AskFault
spot_at (Chainage c) e = if nat_lt (length e.route.course) c then Err (asked.Missing missing.Place) else Ok (e, c)
spot_at (Position p) e = in_cell e (located_or_fault (alignment_of e.route) (referent_at e.route.refs) p)

-- ... of the route of the name
abbrev pub spot_on_route : Image → Name → Place → Result Spot AskFault
spot_on_route i name place = option_map_or (spot_at place) (find (is_named name) i.routes) (Err (asked.Missing missing.Route))

-- where on a route a millimetre of the ground is
abbrev pub place_within : Millimetre → RouteRow → Option Spot
place_within m e = option_map (λ at. (e, at)) (chainage_on e.route.course m)

-- ... on the route that runs over it; in a sound image there is one at most
abbrev pub place_over : Image → Millimetre → Option Spot
place_over i m = option_and_then (place_within m) (find (λ e. runs_over e.route.course m) i.routes)

-- a millimetre of a link, from 0 to its length; at its end the last one is meant
abbrev pub place_along : Image → Link → ℕ → Result Spot Missing
place_along i link mm = if nat_lt link.length mm then Err missing.Place else ok_or (place_over i (link.number, min mm (link.length - 1))) missing.Place

-- ... of the link of the number
abbrev pub place_on_link : Image → ℕ → ℕ → Result Spot Missing
place_on_link i number mm = option_map_or (λ link. place_along i link mm) (find (λ link. nat_eq link.number number) i.links) (Err missing.Link)

abbrev pub unless_missing : Result Spot Missing → Result Spot AskFault
unless_missing (Ok spot) = Ok spot
unless_missing (Err what) = Err (asked.Missing what)

-- The route of a spot and the chainage that is meant, or why there is none.
abbrev pub place_of : Image → AskedPlace → Result Spot AskFault
place_of i (OnRoute route place) = spot_on_route i route place
place_of i (OnLink link mm) = unless_missing (place_on_link i link mm)
