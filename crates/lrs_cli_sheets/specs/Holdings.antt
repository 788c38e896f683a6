-- Which stretch of an asset is told of a record that is refused.
use Rattle.std.specs.Prelude.{◌≡◌, Bool, ◌&&◌, ◌||◌, nat_lt, List, filter, Option, Some, Ok, slice_get}
use Rattle.std.specs.List.{find}
use Rattle.std.specs.Option.{option_map, option_or}
use Rattle.lrs_measure.specs.Texts.{Name, same_name}
use Rattle.lrs_events.specs.Members.{has_side}
use Rattle.lrs_events.specs.Row.Members.{is_of}
use Rattle.lrs_events.specs.declared.class.Asset.{Asset}
use Rattle.lrs_events.specs.declared.class.Kind.{Kind}
use Rattle.lrs_events.specs.declared.class.Kind.TheVariants.{Point, Stretch, Exclusive}
use Rattle.lrs_events.specs.declared.side.Side.{Side}
use Rattle.lrs_events.specs.declared.side.LinkSide.TheVariants.{Left, Right}
use Rattle.lrs_events.specs.declared.span.Span.{Span}
use Rattle.lrs_image.specs.Change.{is_named}
use Rattle.lrs_machine.specs.Image.{state_of}
use Rattle.lrs_machine.specs.Machine.{EventStretch, located_stretch}
use Rattle.lrs_machine.specs.declared.command.NewAsset.{NewAsset}
use Rattle.lrs_machine.specs.declared.image.Image.{Image}
use Rattle.lrs_machine.specs.declared.image.RouteRow.{RouteRow}
use Rattle.lrs_machine.specs.declared.question.Place.TheVariants.{Chainage}
use Rattle.lrs_position.specs.Translations.{alignment_of}
use Rattle.lrs_report_answers.specs.AssetStretches.{row_of_span}
use Rattle.lrs_report_answers.specs.declared.rows.FoundRow.{FoundRow}
use Rattle.lrs_cli_sheets.specs.declared.places.Places.{Places}
use Rattle.lrs_cli_sheets.specs.declared.places.Places.TheVariants.{At, Between}

-- whether two sides of a route have one in common
abbrev pub share_side : Side → Side → Bool
share_side a b = (has_side a Left && has_side b Left) || (has_side a Right && has_side b Right)

-- whether a row has a millimetre of a stretch, on a side that it shares with this one
abbrev pub meets : Side → EventStretch → Span → Bool
meets side e r = nat_lt r.from e.to && nat_lt e.from r.to && share_side side r.side

-- the first row of an asset on a route that has one
abbrev pub first_met : Asset → Side → EventStretch → RouteRow → Option Span
first_met a side e on = find (meets side e) (filter (is_of a.class a.number) on.spans)

-- The first row of an asset that a new one would lie over: on the route, in the stretch and on a side of the new one.
pub record IsLainOver (i : Image) (asked : NewAsset) (a : Asset) (row : FoundRow) : Type 0 where
  pub on : RouteRow
  pub named : find (is_named asked.route) i.routes ≡ Some on
  pub stretch : EventStretch
  pub located : located_stretch (state_of i) (alignment_of on.route) asked.location ≡ Ok stretch
  pub first : option_map (row_of_span on.route.name) (first_met a asked.side stretch on) ≡ Some row

-- the first of these rows on the route of a name, or else the first of all
abbrev pub first_on : Name → List FoundRow → Option FoundRow
first_on route rows = option_or (find (λ r. same_name r.route route) rows) (slice_get rows 0)

-- the places that a row names of an asset of this kind: a point's is one millimetre
abbrev pub places_of_row : Kind → FoundRow → Places
places_of_row Point row = At (Chainage row.from)
places_of_row Stretch row = Between (Chainage row.from) (Chainage row.to)
places_of_row Exclusive row = Between (Chainage row.from) (Chainage row.to)
