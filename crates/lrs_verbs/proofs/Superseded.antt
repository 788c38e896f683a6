-- An asset takes the places of others of its class: these lose them, and then it is entered as on free ground.
use Rattle.std.proofs.Common.{◌≡◌, ℕ, ◌+◌, Bool, true, false, cond, List, [], ◌∷◌, ◌++◌, filter, length, Option, Some, Ok, refl, sym, ap, subst, ◌∙◌, inl}
use Rattle.std.specs.List as list
use Rattle.std.specs.Option.{option_map_or}
use Rattle.std.proofs.lemmas.Bool.{and_parts, or_left}
use Rattle.std.proofs.lemmas.List.{append-nil}
use Rattle.std.specs.Prelude.{◌&&◌, not, slice_range}
use Rattle.std.specs.Cmp.Lexicographic.{bytes_decides}
use Rattle.lrs_inventory.specs.Prelude.{insert_by, Name, same_name, Ground, Asset, Kind, Part, Gone, Span, Place, is_among, places_on, span_before, holds_by_spans, Removal, is_within, IsRemoval, IsPlan, NewAsset, RouteRow, Image, Retired, state_of, asset_entry, EventStretch, attempt, route_before, asset_before, IsSound, Difference, is_named, without, with_difference, AreGone, IsOrderly}
use Rattle.lrs_measure.specs.OrderedLists.{insert_all}
use Rattle.lrs_measure.specs.Lists.{In}
use Rattle.lrs_measure.proofs.Members.{In-append_right}
use Rattle.lrs_events.specs.Changes.{changed, changed_rows, without_rows}
use Rattle.lrs_events.specs.Members.{has_side}
use Rattle.lrs_machine.specs.declared.command.Command.TheVariants as verb
use Rattle.lrs_machine.specs.State as state
use Rattle.lrs_machine.specs.Machine.{is_of_class, enter_asset}
use Rattle.lrs_machine.proofs.Finding.{find_numbered}
use Rattle.lrs_image.specs.Change.{routes_after}
use Rattle.lrs_image.proofs.Tables.{routes_in_order, assets_in_order}
use Rattle.lrs_inventory.specs.declared.plan.Plan.{Plan}
use Rattle.lrs_verbs.specs.Entries.{asset_of, row_of, with_row, entering, AreInLimits, AreEntered}
use Rattle.lrs_inventory.specs.Plans.{plan_of, IsPlanOf}
use Rattle.lrs_verbs.specs.Supersessions.{of_class_there, with_rows_and_one, superseding, IsSuperseding}
use Rattle.lrs_verbs.specs.EntryRequests.{IsWanted}
use Rattle.lrs_verbs.proofs.EntryChecks.{supersede_done}
use Rattle.lrs_image_laws.proofs.Holding.{alone}
use Rattle.lrs_verbs.proofs.InPlace.{DifferAt, found_by_name, names_stay}
use Rattle.lrs_inventory.proofs.Located.{route_in}
use Rattle.lrs_verbs.proofs.NewEntry as entry
use Rattle.lrs_verbs.proofs.NewEntry.{IsEntry, IsOpen, is_entry, is_open}
use Rattle.lrs_verbs.proofs.RowsInPlace as rows
use Rattle.lrs_verbs.proofs.TakenInPlace.{IsTakenSo, among_at, held_lies}
use Rattle.lrs_verbs.proofs.TakenInPlace as taken
use Rattle.lrs_inventory.proofs.Going.{rows_there}

-- ---- lists

module _ {X : Type 0} (before : X → X → Bool) where
  -- the last that comes is put among all others
  last_in : (x : X) (xs ys : List X) → insert_all before (xs ++ x ∷ []) ys ≡ insert_by before x (insert_all before xs ys)
  last_in x [] ys = refl
  last_in x (z ∷ xs) ys = last_in x xs (insert_by before z ys)

  -- one that does not pass is put among others, and does not stay with those that pass
  passed_by : (p : X → Bool) (x : X) (ys : List X) → p x ≡ false → filter p (insert_by before x ys) ≡ filter p ys
  passed_by p x [] h = ap (λ b. cond b (x ∷ []) []) h
  passed_by p x (y ∷ ys) h =
      elim (before x y) as (λ b. filter p (cond b (x ∷ y ∷ ys) (y ∷ insert_by before x ys)) ≡ filter p (y ∷ ys)) [
        | true ↦ ap (λ b. cond b (x ∷ filter p (y ∷ ys)) (filter p (y ∷ ys))) h
        | false ↦ ap (λ zs. cond (p y) (y ∷ zs) zs) (passed_by p x ys h)
      ]

passes_twice : {X : Type 0} (p : X → Bool) (xs : List X) → filter p (filter p xs) ≡ filter p xs
passes_twice p [] = refl
passes_twice p (x ∷ xs) = by (p x) refl (passes_twice p xs)
  where
    by : (b : Bool) → p x ≡ b → filter p (filter p xs) ≡ filter p xs → filter p (cond b (x ∷ filter p xs) (filter p xs)) ≡ cond b (x ∷ filter p xs) (filter p xs)
    by true h rest = ap (λ b. cond b (x ∷ filter p (filter p xs)) (filter p (filter p xs))) h ∙ ap (λ zs. x ∷ zs) rest
    by false h rest = rest

-- a route that is put among those of other names is no more among these
put_out : (name : Name) (r : RouteRow) (routes : List RouteRow) → r.route.name ≡ name → without name (insert_by route_before r (without name routes)) ≡ without name routes
put_out name r routes named =
    passed_by route_before (λ e. not (is_named name e)) r (without name routes) (ap not ((bytes_decides r.route.name name).1 named)) ∙ passes_twice (λ e. not (is_named name e)) routes

module _ (e : NewAsset) (i : Image) (kind : Kind) (r : RouteRow) (x : EventStretch) (removal : Removal) (parts : List Part) (gone : List Gone) (s : IsSound i) (w : IsWanted i true e kind r x) (limits : AreInLimits e)
    (plan : IsPlan r.spans removal.change) (is : IsRemoval (of_class_there e x) r.spans removal)
    (led : AreEntered (length i.edits + 1) r.route.course (row_of e x) parts)
    (lost : AreGone (length i.edits + 1) Retired (holds_by_spans r.route.course removal.left.items) gone) where
  abbrev n : ℕ
  n = length i.edits + 1

  abbrev course : List Ground
  course = r.route.course

  abbrev places : List Place
  places = places_on e.side (slice_range course x.from x.to)

  in_routes : In r i.routes
  in_routes = route_in i r w.begun.route

  -- ---- what is taken

  abbrev takes : ℕ → Place → Bool
  takes a p = is_of_class (state_of i) e.class a && is_among places p

  of_class : (a : Asset) → In a i.assets → is_of_class (state_of i) e.class a.number ≡ same_name a.class e.class
  unfolding state_of
  of_class a m = ap (λ (o : Option state.Asset). option_map_or (λ (b : state.Asset). same_name b.class e.class) o false) (find_numbered (λ (b : Asset). b.number) (λ b. (asset_entry b).1) a i.assets (assets_in_order i s) m)

  -- the stretch as a row
  abbrev stretch : Span
  stretch = record { asset = 0; class = e.class; from = x.from; to = x.to; side = e.side }

  so : IsTakenSo i course (of_class_there e x) takes
  so = record {
    there = λ a m j g t at. (λ k. of_class a m k && among_at course x.from x.to e.side j g t (alone i r s in_routes).once at k);
    only_there = λ a p h. held_lies course (stretch ∷ []) 0 p (or_left (is_among places p) false (and_parts (is_of_class (state_of i) e.class a) (is_among places p) h).1);
  }

  -- ---- the others have lost it

  abbrev left : RouteRow
  left = record r { spans = changed_rows removal.change r.spans }

  abbrev mid : Image
  mid = taken.new i r Retired (of_class_there e x) takes removal gone s w.begun.route is so lost

  differ : DifferAt r left i.routes mid.routes
  differ = taken.differ i r Retired (of_class_there e x) takes removal gone s w.begun.route is so lost

  in_mid : In left mid.routes
  in_mid = subst (In left) (sym differ.after) (In-append_right left differ.front (left ∷ differ.rear) (inl refl))

  ready : IsOpen mid left
  ready = let o = is_open i r s in_routes in record {
    orderly = taken.orderly i r Retired (of_class_there e x) takes removal gone s w.begun.route is so lost;
    routes = names_stay r left i.routes mid.routes differ refl o.routes;
    on_links = o.on_links;
    parts = o.parts;
    edits = o.edits;
  }

  its_entry : IsEntry e mid left x
  its_entry = let it = is_entry e i true kind r x w limits in record {
    fresh = it.fresh;
    asset = it.asset;
    route = found_by_name left mid.routes ready.routes in_mid;
    name = w.begun.name;
    filled = w.filled;
    within = w.within;
  }

  -- ---- both at once

  abbrev row : Span
  row = row_of e x

  abbrev more : List Span
  more = insert_by span_before row (changed_rows removal.change r.spans)

  abbrev gone_rows : List Span
  gone_rows = removal.change.gone.items

  abbrev come_rows : List Span
  come_rows = removal.change.come.items ++ row ∷ []

  rows_are : changed span_before gone_rows come_rows r.spans ≡ more
  rows_are = last_in span_before row removal.change.come.items (without_rows gone_rows r.spans)

  found : list.find (is_named e.route) i.routes ≡ Some r
  found = ap (λ q. list.find (is_named q) i.routes) (sym w.begun.name) ∙ w.begun.route

  abbrev d : Difference
  d = superseding n e x removal.change parts gone

  without_left : without e.route mid.routes ≡ without e.route i.routes
  without_left = ap (λ q. without e.route (insert_by route_before left (without q i.routes))) w.begun.name ∙ put_out e.route left i.routes w.begun.name

  routes_are : routes_after (Some (with_rows_and_one e.route removal.change row)) i.routes ≡ routes_after (Some (with_row e.route row)) mid.routes
  routes_are =
      rows.routes_are i (routes_in_order i s) e.route gone_rows come_rows r w.begun.name found more rows_are
      ∙ sym (entry.becomes e mid left x parts ready its_entry led ∙ ap (insert_by route_before (let f : RouteRow = record r { spans = more } in f)) without_left)

  both : with_difference d i ≡ with_difference (entering n e x parts) mid
  both = λ j. record i { assets = insert_by asset_before (asset_of n e) i.assets; routes = routes_are j; entered = i.entered ++ parts; gone = sym (append-nil (i.gone ++ gone)) j }

  attempts : attempt n (verb.Supersede e) (state_of i) ≡ Ok (state_of (with_difference d i))
  attempts =
      supersede_done e n (state_of i) _ w.wanted
      ∙ ap Ok (ap (enter_asset n e places) (taken.state i r Retired (of_class_there e x) takes removal gone s w.begun.route is so lost)
      ∙ entry.state e mid left x parts ready its_entry led
      ∙ ap state_of (sym both))

  pub makes : IsPlanOf (verb.Supersede e) i (plan_of d)
  makes = record {
    makes = record {
      state = attempts;
      edits = refl;
      orderly = λ room. subst IsOrderly (sym both) (entry.orderly e mid left x parts ready its_entry led (room.assets refl));
    };
    differ = rows.can i (routes_in_order i s) e.route gone_rows come_rows r w.begun.name found more rows_are (Some (asset_of n e)) parts gone (entry.rows_kept e mid left x parts ready its_entry led) plan.in_order (rows_there r.spans gone_rows plan.change.were);
    tells = rows.tells i (routes_in_order i s) e.route gone_rows come_rows r w.begun.name found more rows_are (Some (asset_of n e)) parts gone;
  }

-- what is removed between the ends of the stretch
pub removed_there : (e : NewAsset) (x : EventStretch) (low high : ℕ) (rows : List Span) (removal : Removal) → low ≡ x.from → high ≡ x.to
    → IsRemoval (λ class asset j t. same_name class e.class && (is_within low high j && has_side e.side t)) rows removal → IsRemoval (of_class_there e x) rows removal
removed_there e x low high rows removal from to h = coe 0 1 (k. IsRemoval (λ class asset j t. same_name class e.class && (is_within (from k) (to k) j && has_side e.side t)) rows removal) h

-- The verb enters the asset in the place of others, where its checks have passed.
pub supersedes : (e : NewAsset) (i : Image) (kind : Kind) (r : RouteRow) (x : EventStretch) (removal : Removal) (p : Plan) → IsSound i → IsWanted i true e kind r x → AreInLimits e
    → IsPlan r.spans removal.change → IsRemoval (of_class_there e x) r.spans removal → IsSuperseding (length i.edits + 1) e x r.route.course removal p → IsPlanOf (verb.Supersede e) i p
supersedes e i kind r x removal p s w limits plan is by =
    subst (IsPlanOf (verb.Supersede e) i) (sym by.plan_is) (makes e i kind r x removal by.parts by.gone s w limits plan is by.entered by.are_gone)
