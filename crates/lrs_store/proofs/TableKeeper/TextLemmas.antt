-- The texts of a changed image are of their kinds.
use Rattle.std.proofs.Common.{◌≡◌, Bool, true, false, cond, List, [], ◌∷◌, ◌++◌, Option, Some, None, refl, ◌∙◌}
use Rattle.std.specs.Prelude.{◌&&◌, IfSome}
use Rattle.std.specs.List.{list_all, find}
use Rattle.std.specs.Option.{option_map}
use Rattle.std.specs.Str.{is_utf8}
use Rattle.std.proofs.lemmas.Bool.{and_parts, and_from}
use Rattle.std.proofs.lemmas.List.Folds.{list_all-append}
use Rattle.std.proofs.lemmas.Str.{is_utf8-from_IsUtf8}
use Rattle.lrs_measure.specs.Texts.{Name}
use Rattle.lrs_measure.specs.OrderedLists.{insert_by, insert_some, insert_all}
use Rattle.lrs_measure.proofs.Filters.{all-filter}
use Rattle.lrs_position.specs.declared.route.Referent.{Referent}
use Rattle.lrs_position.specs.declared.route.Route.{Route}
use Rattle.lrs_position.specs.Names.{is_route_name, is_referent_name}
use Rattle.lrs_position.specs.Routes.{referent_before}
use Rattle.lrs_events.specs.declared.class.Class.{Class}
use Rattle.lrs_events.specs.declared.class.Asset.{Asset}
use Rattle.lrs_events.specs.Names.{is_class_name, is_value}
use Rattle.lrs_machine.specs.declared.image.RouteRow.{RouteRow}
use Rattle.lrs_machine.specs.declared.image.Edit.{Edit}
use Rattle.lrs_machine.specs.declared.image.Image.{Image}
use Rattle.lrs_machine.specs.Keys.{is_key}
use Rattle.lrs_machine.specs.Sound.{class_before, asset_before, route_before}
use Rattle.lrs_image.specs.declared.change.RouteChange.{RouteChange}
use Rattle.lrs_image.specs.declared.change.Change.{Change}
use Rattle.lrs_image.specs.Change.{apply, changed_refs, fits_after, route_if, entry_after, is_named, without, without_some, routes_after}
use Rattle.lrs_store_commit.specs.Laws.ImageLaws.{HasTexts}
use Rattle.lrs_store_commit.specs.Laws.Texts as coming
use Rattle.lrs_store_commit.specs.Laws.Texts.{AreNames, MakesTexts, ChangesTexts}

module _ {X : Type 0} (p : X → Bool) where
  all_inserted : (before : X → X → Bool) (x : X) (xs : List X) → p x ≡ true → list_all p xs ≡ true → list_all p (insert_by before x xs) ≡ true
  all_inserted before x [] here h = and_from (p x) true here refl
  all_inserted before x (y ∷ ys) here h =
      let both = and_parts (p y) (list_all p ys) h in
      elim (before x y) as (λ b. list_all p (cond b (x ∷ y ∷ ys) (y ∷ insert_by before x ys)) ≡ true) [
        | true ↦ and_from (p x) (list_all p (y ∷ ys)) here h
        | false ↦ and_from (p y) (list_all p (insert_by before x ys)) both.0 (all_inserted before x ys here both.1)
      ]

  all_with : (before : X → X → Bool) (o : Option X) (xs : List X) → IfSome o (λ x. p x ≡ true) → list_all p xs ≡ true → list_all p (insert_some before o xs) ≡ true
  all_with before None xs h k = k
  all_with before (Some x) xs h k = all_inserted before x xs h k

  all_with_all : (before : X → X → Bool) (xs ys : List X) → list_all p xs ≡ true → list_all p ys ≡ true → list_all p (insert_all before xs ys) ≡ true
  all_with_all before [] ys h k = k
  all_with_all before (x ∷ xs) ys h k =
      let both = and_parts (p x) (list_all p xs) h in
      all_with_all before xs (insert_by before x ys) both.1 (all_inserted before x ys both.0 k)

  all_then : (xs : List X) (x : X) → list_all p xs ≡ true → p x ≡ true → list_all p (xs ++ x ∷ []) ≡ true
  all_then xs x h here = list_all-append p xs (x ∷ []) ∙ and_from (list_all p xs) (p x && true) h (and_from (p x) true here refl)

  found_passes : (q : X → Bool) (xs : List X) → list_all p xs ≡ true → IfSome (find q xs) (λ x. p x ≡ true)
  found_passes q [] h = tt
  found_passes q (x ∷ xs) h =
      let both = and_parts (p x) (list_all p xs) h in
      elim (q x) as (λ b. IfSome (cond b (Some x) (find q xs)) (λ x. p x ≡ true)) [
        | true ↦ both.0
        | false ↦ found_passes q xs both.1
      ]

-- ---- one route

abbrev are_names : List Referent → Bool
are_names refs = list_all (λ r. is_referent_name r.name) refs

-- the names on a route are names
abbrev has_names : RouteRow → Bool
has_names e = is_route_name e.route.name && are_names e.route.refs

abbrev route_has_names : Route → Bool
route_has_names r = is_route_name r.name && are_names r.refs

refs_after : (c : RouteChange) (refs : List Referent) → AreNames c.refs.come → are_names refs ≡ true → are_names (changed_refs c.refs refs) ≡ true
refs_after c refs come h = all_with_all (λ r. is_referent_name r.name) referent_before c.refs.come _ come (all-filter (λ r. is_referent_name r.name) _ refs h)

route_names : (c : RouteChange) (r : Route) (b : Bool) (fits : fits_after c r ≡ b) → ChangesTexts c → route_has_names r ≡ true → route_has_names (route_if c r b fits) ≡ true
route_names c r true fits come h =
    let both = and_parts (is_route_name r.name) (are_names r.refs) h in
    and_from (is_route_name c.name) (are_names (changed_refs c.refs r.refs)) come.0 (refs_after c r.refs come.1 both.1)
route_names c r false fits come h = h

new_asset_names : (c : RouteChange) (e : RouteRow) → ChangesTexts c → has_names e ≡ true → has_names (entry_after c e) ≡ true
new_asset_names c e come h = route_names c e.route (fits_after c e.route) refl come h

made_names : (o : Option RouteRow) → IfSome o MakesTexts → IfSome o (λ e. has_names e ≡ true)
made_names None h = tt
made_names (Some e) h = and_from (is_route_name e.route.name) (are_names e.route.refs) h.0 h.1

-- ---- all routes

changed_names : (c : RouteChange) (o : Option RouteRow) → ChangesTexts c → IfSome o (λ e. has_names e ≡ true) → IfSome (option_map (entry_after c) o) (λ e. has_names e ≡ true)
changed_names c None come h = tt
changed_names c (Some e) come h = new_asset_names c e come h

routes_names : (o : Option RouteChange) (routes : List RouteRow) → IfSome o ChangesTexts → list_all has_names routes ≡ true → list_all has_names (routes_after o routes) ≡ true
routes_names None routes come h = h
routes_names (Some c) routes come h =
    all_with has_names route_before (option_map (entry_after c) (find (is_named c.route) routes)) (without c.route routes)
    (changed_names c (find (is_named c.route) routes) come (found_passes has_names (is_named c.route) routes h))
    (all-filter has_names _ routes h)

left_names : (o : Option Name) (routes : List RouteRow) → list_all has_names routes ≡ true → list_all has_names (without_some o routes) ≡ true
left_names None routes h = h
left_names (Some name) routes h = all-filter has_names _ routes h

both_names : (routes : List RouteRow) → list_all (λ e. is_route_name e.route.name) routes ≡ true → list_all (λ e. are_names e.route.refs) routes ≡ true → list_all has_names routes ≡ true
both_names [] h k = refl
both_names (e ∷ es) h k =
    let one = and_parts (is_route_name e.route.name) (list_all (λ e. is_route_name e.route.name) es) h in
    let two = and_parts (are_names e.route.refs) (list_all (λ e. are_names e.route.refs) es) k in
    and_from (has_names e) (list_all has_names es) (and_from (is_route_name e.route.name) (are_names e.route.refs) one.0 two.0) (both_names es one.1 two.1)

own_names : (routes : List RouteRow) → list_all has_names routes ≡ true → list_all (λ e. is_route_name e.route.name) routes ≡ true
own_names [] h = refl
own_names (e ∷ es) h =
    let both = and_parts (has_names e) (list_all has_names es) h in
    and_from (is_route_name e.route.name) (list_all (λ e. is_route_name e.route.name) es) (and_parts (is_route_name e.route.name) (are_names e.route.refs) both.0).0 (own_names es both.1)

referent_names : (routes : List RouteRow) → list_all has_names routes ≡ true → list_all (λ e. are_names e.route.refs) routes ≡ true
referent_names [] h = refl
referent_names (e ∷ es) h =
    let both = and_parts (has_names e) (list_all has_names es) h in
    and_from (are_names e.route.refs) (list_all (λ e. are_names e.route.refs) es) (and_parts (is_route_name e.route.name) (are_names e.route.refs) both.0).1 (referent_names es both.1)

-- ---- the image

pub texts_after : (c : Change) (i : Image) → coming.HasTexts c → HasTexts i → HasTexts (apply c i)
texts_after c i come h =
    let d = c.difference in
    let routes = all_with has_names route_before d.made (without_some d.dropped (routes_after d.changed i.routes)) (made_names d.made come.made) (left_names d.dropped (routes_after d.changed i.routes) (routes_names d.changed i.routes come.changed (both_names i.routes h.routes h.referents))) in
    record {
      classes = all_with (λ (x : Class). is_class_name x.name) class_before d.class i.classes come.class h.classes;
      values = all_with (λ (a : Asset). is_value a.value) asset_before d.asset i.assets come.value h.values;
      routes = own_names (apply c i).routes routes;
      referents = referent_names (apply c i).routes routes;
      keys = all_then (λ (e : Edit). is_key e.key) i.edits c.edit h.keys come.key;
      lines = all_then (λ (e : Edit). is_utf8 e.line) i.edits c.edit h.lines (is_utf8-from_IsUtf8 c.edit.line come.line);
    }
