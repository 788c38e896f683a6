-- The lists of an image, the route that is out of its place while it changes, and their room.
use Rattle.std.specs.Prelude.{◌≡◌, ◌≤◌, ◌+◌, length, vec_len, vec_capacity, Option, Some, None, unwrap_or, ⊤, List}
use Rattle.std.specs.List.{find}
use Rattle.std.specs.Option.{option_map}
use Rattle.lrs_measure.specs.OrderedLists.{insert_some}
use Rattle.lrs_machine.specs.declared.image.Image.{Image}
use Rattle.lrs_machine.specs.declared.image.RouteRow.{RouteRow}
use Rattle.lrs_events.specs.RouteSpans.OpenRows.{HasRoom}
use Rattle.lrs_image.specs.declared.change.RouteChange.{RouteChange}
use Rattle.lrs_image.specs.declared.change.Difference.{Difference}
use Rattle.lrs_image.specs.declared.image_lists.ImageLists.{ImageLists}
use Rattle.lrs_image.specs.declared.open_route.OpenRoute.{OpenRoute}
use Rattle.lrs_machine.specs.Sound.{route_before}
use Rattle.lrs_image.specs.Change.{changed_refs, is_named, without}

-- the image of lists
abbrev pub image_of : ImageLists → Image
image_of k = record {
  links = k.links.rows;
  classes = k.classes.rows;
  assets = k.assets.rows;
  routes = k.routes.rows;
  entered = k.entered.items;
  gone = k.gone.items;
  edits = k.edits.items;
}

-- a route that is out of its place, as it is
abbrev pub row_of_open : OpenRoute → RouteRow
row_of_open o = record { route = o.route; spans = o.spans.rows }

-- routes with the one that is out of its place
abbrev pub routes_with : Option OpenRoute → List RouteRow → List RouteRow
routes_with opened routes = insert_some route_before (option_map row_of_open opened) routes

-- the image of lists with the route that is out of its place
abbrev pub image_with : Option OpenRoute → ImageLists → Image
image_with opened k = record (image_of k) { routes = routes_with opened k.routes.rows }

-- It has the referents from after the change, and room for the inserted rows.
pub record IsReadyFor (c : RouteChange) (o : OpenRoute) : Type 0 where
  pub refs : unwrap_or o.refs_after o.route.refs ≡ changed_refs c.refs o.route.refs
  pub spans : HasRoom c.spans_come o.spans

abbrev pub IsOpenFor : RouteChange → Option OpenRoute → Type 0
IsOpenFor c None = ⊤
IsOpenFor c (Some o) = IsReadyFor c o

-- The route of the name, where there is one, is out of its place among the routes, and ready.
pub record IsTakenFor (c : RouteChange) (opened : Option OpenRoute) (others routes : List RouteRow) : Type 0 where
  pub ready : IsOpenFor c opened
  pub found : option_map row_of_open opened ≡ find (is_named c.route) routes
  pub others_are : others ≡ without c.route routes

-- Only the route that changes is out of its place.
abbrev pub HasOpened : Option RouteChange → Option OpenRoute → List RouteRow → Type 0
HasOpened None opened others = opened ≡ None
HasOpened (Some c) opened others = IsTakenFor c opened others (routes_with opened others)

-- There is room for what is inserted, and for one edit.
pub record HasRoomFor (d : Difference) (k : ImageLists) : Type 0 where
  pub links : 1 ≤ k.links.room
  pub classes : 1 ≤ k.classes.room
  pub assets : 1 ≤ k.assets.room
  pub routes : 2 ≤ k.routes.room
  pub entered : vec_len k.entered + length d.entered ≤ vec_capacity k.entered
  pub gone : vec_len k.gone + length d.gone ≤ vec_capacity k.gone
  pub edits : vec_len k.edits + 1 ≤ vec_capacity k.edits

pub record IsPrepared (d : Difference) (opened : Option OpenRoute) (k : ImageLists) : Type 0 where
  pub route : HasOpened d.changed opened k.routes.rows
  pub room : HasRoomFor d k
