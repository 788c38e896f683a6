-- Which assets hold nothing any more.
use Rattle.std.specs.Prelude.{◌==◌, List, length, Bool, filter}
use Rattle.std.specs.List.{list_all}
use Rattle.lrs_events.specs.declared.class.Asset.{Asset}
use Rattle.lrs_events.specs.Row.Members.{is_of}
use Rattle.lrs_machine.specs.declared.image.RouteRow.{RouteRow}

-- whether an asset has no row on a route
abbrev pub is_off : Asset → RouteRow → Bool
is_off a e = length (filter (is_of a.class a.number) e.spans) == 0

-- whether it has none on any route
abbrev pub is_gone : Asset → List RouteRow → Bool
is_gone a routes = list_all (is_off a) routes
