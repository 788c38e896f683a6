-- What a change makes of an image: removed rows and inserted rows, table by table.
use Rattle.std.specs.Prelude.{◌≡◌, ℕ, ◌+◌, Bool, true, false, not, List, [], ◌∷◌, ◌++◌, length, map, filter, Option, Some, None, unwrap_or, ⊤}
use Rattle.std.specs.List.{list_any, list_all, find}
use Rattle.std.specs.Option.{option_map}
use Rattle.lrs_measure.specs.Lists.{each_two}
use Rattle.lrs_measure.specs.OrderedLists.{insert_some, insert_all}
use Rattle.lrs_measure.specs.Texts.{Name, same_name}
use Rattle.lrs_element.specs.Course.{piece_count}
use Rattle.lrs_element.specs.declared.link.Ground.{Ground}
use Rattle.lrs_element.specs.declared.marks.Mark.{Mark}
use Rattle.lrs_position.specs.declared.route.Referent.{Referent}
use Rattle.lrs_position.specs.declared.route.Route.{Route}
use Rattle.lrs_position.specs.Routes.{is_route, referent_before}
use Rattle.lrs_events.specs.declared.span.Span.{Span}
use Rattle.lrs_events.specs.Changes.{has_row, changed}
use Rattle.lrs_events.specs.Spans.{are_rows, span_before}
use Rattle.lrs_machine.specs.declared.image.RouteRow.{RouteRow}
use Rattle.lrs_machine.specs.declared.image.Edit.{Edit}
use Rattle.lrs_machine.specs.declared.image.Image.{Image}
use Rattle.lrs_machine.specs.Sound.{link_before, class_before, asset_before, route_before, IsSound}
use Rattle.lrs_image.specs.declared.change.ReferentChange.{ReferentChange}
use Rattle.lrs_image.specs.declared.change.RouteChange.{RouteChange}
use Rattle.lrs_image.specs.declared.change.RouteKeys.{RouteKeys}
use Rattle.lrs_image.specs.declared.change.Difference.{Difference}
use Rattle.lrs_image.specs.declared.change.Change.{Change}

-- what lies on a route

-- what lies on no route
abbrev pub no_keys : RouteKeys
no_keys = record { refs = []; spans = [] }

-- the names of these referents, and these rows
abbrev pub keys_of : List Referent → List Span → RouteKeys
keys_of refs spans = record { refs = map (λ r. r.name) refs; spans = spans }

-- one route that stays

-- the referents without the removed ones, with the inserted ones in their places
abbrev pub changed_refs : ReferentChange → List Referent → List Referent
changed_refs c refs = insert_all referent_before c.come (filter (λ r. not (list_any (same_name r.name) c.gone)) refs)

abbrev pub course_after : RouteChange → Route → List Ground
course_after c r = unwrap_or c.course r.course

abbrev pub marks_after : RouteChange → Route → List Mark
marks_after c r = unwrap_or c.marks r.marks

-- whether course, marks and referents after the change are those of a route
abbrev pub fits_after : RouteChange → Route → Bool
fits_after c r = is_route (course_after c r) (marks_after c r) (changed_refs c.refs r.refs)

abbrev pub route_if : (c : RouteChange) (r : Route) → (b : Bool) → fits_after c r ≡ b → Route
route_if c r true fits = record { name = c.name; course = course_after c r; marks = marks_after c r; refs = changed_refs c.refs r.refs; fits = fits }
route_if c r false misfits = r

-- the route after the change; one that would be no route stays as it is
abbrev pub route_after : RouteChange → Route → Route
route_after c r = route_if c r (fits_after c r) (λ i. fits_after c r)

abbrev pub spans_after : RouteChange → List Span → List Span
spans_after c rows = changed span_before c.spans_gone c.spans_come rows

abbrev pub entry_after : RouteChange → RouteRow → RouteRow
entry_after c e = record { route = route_after c e.route; spans = spans_after c e.spans }

-- all routes

abbrev pub is_named : Name → RouteRow → Bool
is_named name e = same_name e.route.name name

-- the routes of other names
abbrev pub without : Name → List RouteRow → List RouteRow
without name routes = filter (λ e. not (is_named name e)) routes

abbrev pub without_some : Option Name → List RouteRow → List RouteRow
without_some None routes = routes
without_some (Some name) routes = without name routes

-- the routes after a change of one, which is then in the place of its new name
abbrev pub routes_after : Option RouteChange → List RouteRow → List RouteRow
routes_after None routes = routes
routes_after (Some c) routes = insert_some route_before (option_map (entry_after c) (find (is_named c.route) routes)) (without c.route routes)

-- the image

-- the difference that changes nothing
abbrev pub no_difference : Difference
no_difference = record { link = None; class = None; asset = None; changed = None; dropped = None; keys = no_keys; made = None; entered = []; gone = [] }

-- The image with this difference: what is inserted is put in its order, and the ledgers grow at their end.
abbrev pub with_difference : Difference → Image → Image
with_difference d i = record i {
  links = insert_some link_before d.link i.links;
  classes = insert_some class_before d.class i.classes;
  assets = insert_some asset_before d.asset i.assets;
  routes = insert_some route_before d.made (without_some d.dropped (routes_after d.changed i.routes));
  entered = i.entered ++ d.entered;
  gone = i.gone ++ d.gone;
}

abbrev pub with_edit : Edit → Image → Image
with_edit e i = record i { edits = i.edits ++ e ∷ [] }

-- The image after a change.
abbrev pub apply : Change → Image → Image
apply c i = with_edit c.edit (with_difference c.difference i)

-- which changes can be made

-- a referent has the name
abbrev pub refers_to : Name → Referent → Bool
refers_to name r = same_name r.name name

-- the removed rows are rows of the route
abbrev pub are_rows_of : RouteRow → List Span → Bool
are_rows_of e gone = list_all (has_row e.spans) gone

-- the removed names are those of referents of the route
abbrev pub are_names_of : RouteRow → List Name → Bool
are_names_of e gone = list_all (λ name. list_any (refers_to name) e.route.refs) gone

-- A route that gets another name has these referents and rows after the change.
abbrev pub IsRenamedWhole : RouteChange → RouteRow → Type 0
IsRenamedWhole c e = same_name c.route c.name ≡ false → c.keys ≡ keys_of (changed_refs c.refs e.route.refs) (spans_after c e.spans)

-- The removed rows are of the route and told apart, the removed referents are of the route, and course, marks, referents and rows after the change are those of a route. Where the name changes, all that then lies on the route is named.
pub record CanBecome (c : RouteChange) (e : RouteRow) : Type 0 where
  pub fits : fits_after c e.route ≡ true
  pub rows : are_rows (spans_after c e.spans) ≡ true
  pub gone : each_two span_before c.spans_gone ≡ true
  pub there : are_rows_of e c.spans_gone ≡ true
  pub named : are_names_of e c.refs.gone ≡ true
  pub renamed : IsRenamedWhole c e

-- The route that changes is there, and can become what the change says.
pub record CanChange (c : RouteChange) (routes : List RouteRow) : Type 0 where
  pub row : RouteRow
  pub found : find (is_named c.route) routes ≡ Some row
  pub becomes : CanBecome c row

abbrev pub CanChangeRoute : Option RouteChange → List RouteRow → Type 0
CanChangeRoute None routes = ⊤
CanChangeRoute (Some c) routes = CanChange c routes

-- The removed route is another than the one that changes, under its old name and under its new one.
abbrev pub GoesApart : Option RouteChange → Option Name → Type 0
GoesApart None dropped = ⊤
GoesApart (Some c) None = ⊤
GoesApart (Some c) (Some name) = (same_name c.route name ≡ false) × (same_name c.name name ≡ false)

-- The route that goes is there, with these referents and rows.
pub record GoesWhole (name : Name) (keys : RouteKeys) (routes : List RouteRow) : Type 0 where
  pub row : RouteRow
  pub found : find (is_named name) routes ≡ Some row
  pub keys_are : keys ≡ keys_of row.route.refs row.spans

abbrev pub GoesWholeIfAny : Option Name → RouteKeys → List RouteRow → Type 0
GoesWholeIfAny None keys routes = ⊤
GoesWholeIfAny (Some name) keys routes = GoesWhole name keys routes

-- The difference can be made: what a route becomes is a route, another one goes with all that lies on it, and the names of the routes stay in order.
pub record CanDiffer (d : Difference) (i : Image) : Type 0 where
  pub route : CanChangeRoute d.changed i.routes
  pub apart : GoesApart d.changed d.dropped
  pub whole : GoesWholeIfAny d.dropped d.keys i.routes
  pub names : each_two route_before (routes_after d.changed i.routes) ≡ true

-- The change can be made, and leaves the image sound.
pub record CanMake (c : Change) (i : Image) : Type 0 where
  pub differ : CanDiffer c.difference i
  pub sound : IsSound (apply c i)

-- how many rows a difference lists

abbrev pub piece_rows : Option (List Ground) → ℕ
piece_rows None = 0
piece_rows (Some course) = piece_count course

abbrev pub mark_rows : Option (List Mark) → ℕ
mark_rows None = 0
mark_rows (Some marks) = length marks

abbrev pub key_rows : RouteKeys → ℕ
key_rows k = length k.refs + length k.spans

abbrev pub changed_rows : Option RouteChange → ℕ
changed_rows None = 0
changed_rows (Some c) = piece_rows c.course + mark_rows c.marks + key_rows c.keys + length c.refs.gone + length c.refs.come + length c.spans_gone + length c.spans_come

abbrev pub made_rows : Option RouteRow → ℕ
made_rows None = 0
made_rows (Some e) = piece_count e.route.course + length e.route.marks + length e.route.refs + length e.spans

-- The pieces, marks, referents and spans of routes, and the parts of both ledgers, that a difference lists: what comes, and what goes by its key.
abbrev pub rows_of : Difference → ℕ
rows_of d = changed_rows d.changed + key_rows d.keys + made_rows d.made + length d.entered + length d.gone
