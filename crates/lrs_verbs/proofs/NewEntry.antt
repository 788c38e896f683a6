-- What an entry makes: a new asset, a row on its route, and the rows of a ledger for it.
use Rattle.std.proofs.Common.{◌≡◌, ℕ, ◌+◌, ◌<◌, ◌≤◌, Bool, true, false, cond, List, [], ◌∷◌, ◌++◌, length, Some, None, Ok, refl, sym, ap, subst, ◌∙◌, arith, inl, inr, ◌⊎◌}
use Rattle.std.specs.List as list
use Rattle.std.specs.Cmp.{nat_cmp_total, unsigned_tied}
use Rattle.std.specs.FinMap.{find, nat_cmp-IsAntisymmetric}
use Rattle.std.proofs.lemmas.Bool.{both_ways, not-true, and_parts, and_from, or_left, or_right, or_parts, eqb-true, eq-eqb, le-leb, leb-true, lt-ltb, cases_lt}
use Rattle.std.proofs.lemmas.Bool.Decides.{nat_tests}
use Rattle.std.proofs.lemmas.List.{append-nil}
use Rattle.std.proofs.lemmas.List.Folds.{list_all-map, list_any-append}
use Rattle.std.specs.Prelude.{is_some, ◌||◌, ◌&&◌, not, nat_eq, nat_lt, nat_le, slice_range}
use Rattle.std.specs.List.{list_any, list_all}
use Rattle.std.specs.Ordering.{nat_cmp, eq_by_cmp}
use Rattle.std.specs.Cmp.Lexicographic.{bytes_decides}
use Rattle.lrs_inventory.specs.Prelude.{each_two, insert_by, name_cmp, same_name, longest_route, is_too_long, is_route_course, have_marks, are_referents, Asset, Kind, Part, Span, Place, is_among, places_on, span_before, are_rows, NewAsset, RouteRow, Image, Edit, state_of, holds_on, route_entry, referents_on, asset_entry, EventStretch, part_of, refuse_at, attempt, contains_key, route_before, asset_before, is_span, are_spans_of, is_on_a_link, are_courses, IsSound, RouteCourse, is_named, without, with_difference, IsOrderly}
use Rattle.lrs_measure.specs.Lists.{In, is_nothing}
use Rattle.lrs_measure.specs.Limits.{most_pieces, most_pairs, most_assets, most_edits}
use Rattle.lrs_element.specs.Course.{piece_count}
use Rattle.lrs_events.specs.Changes.{changed}
use Rattle.lrs_events.specs.Parts.{has_pair, part_before}
use Rattle.lrs_events.specs.Spans.{is_row, holds_by_span}
use Rattle.lrs_machine.specs.Segments.{is_exclusive}
use Rattle.lrs_events.proofs.Row.Changing.{any_insert}
use Rattle.lrs_machine.specs.declared.answer.Cause.TheVariants as cause
use Rattle.lrs_machine.specs.declared.command.Command.TheVariants as verb
use Rattle.lrs_machine.specs.Machine.{first_holder, enter_asset}
use Rattle.lrs_machine.specs.EnteredNumbers.{is_asset_number, is_lateral_offset}
use Rattle.lrs_machine.specs.Sound.{is_asset, are_assets, spans_of, is_part, share_nothing, pairs_of, are_parts, parts_of, is_named_by, are_all_marks, are_all_referents, RouteMarks, RouteReferents}
use Rattle.lrs_machine.proofs.SoundImages.{and_three}
use Rattle.lrs_measure.specs.KeyOrder.{numbers_agree}
use Rattle.lrs_measure.proofs.Members.{any_found, any_of, all_at, all_weaker, all_of}
use Rattle.lrs_measure.proofs.Insertions.{length-insert_by, all-insert_by}
use Rattle.lrs_measure.proofs.EachTwo.{each_two_from}
use Rattle.lrs_image.specs.Change.{routes_after}
use Rattle.lrs_image.proofs.Tables.{passes, routes_in_order}
use Rattle.lrs_image_laws.specs.Orderly.{is_filled, share_nothing_in_an_edit}
use Rattle.lrs_image_laws.proofs.Ordering.{sound_is_orderly}
use Rattle.lrs_verbs.specs.Entries.{asset_of, row_of, with_row, entering, AreInLimits, AreEntered, IsEntering}
use Rattle.lrs_verbs.specs.EntryRequests.{IsWanted}
use Rattle.lrs_inventory.specs.RouteStretches.{IsRouteIn}
use Rattle.lrs_inventory.specs.declared.plan.Plan.{Plan}
use Rattle.lrs_inventory.specs.Plans.{plan_of, IsPlanOf}
use Rattle.lrs_verbs.proofs.EntryChecks.{then_held}
use Rattle.lrs_inventory.proofs.Filed.{is_some-find_row, put-insert_by}
use Rattle.lrs_image_laws.proofs.InOrder.{and_weaker, any-insert_by, each_two-insert_by, is_comparable}
use Rattle.lrs_image_laws.proofs.Apart.{nat_eq-comm}
use Rattle.lrs_verbs.proofs.NewClass as new_class
use Rattle.lrs_image_laws.proofs.Appended.{each_two-append}
use Rattle.lrs_inventory.proofs.Located.{route_in}
use Rattle.lrs_image_laws.proofs.Holding.{alone}
use Rattle.lrs_inventory.proofs.FirstHolder.{spans_entry}
use Rattle.lrs_verbs.proofs.InPlace.{DifferAt, map_same, made_same, any_more, all_still}
use Rattle.lrs_verbs.proofs.RowsInPlace.{keep_all, routes_are, differ, can, tells}
use Rattle.lrs_verbs.proofs.NewRow.{IsNew, still_rows}
use Rattle.lrs_image_laws.proofs.Once.{parts_apart}
use Rattle.lrs_verbs.proofs.NewParts.{of_edit, of_asset, few}
use Rattle.lrs_image_laws.proofs.Appended.{all-append, later_part, apart_by_edit, no_pairs, pairs-append}

-- a route is no longer than the longest
longest : (r : RouteRow) → length r.route.course ≤ longest_route
longest r =
    let fits = and_three (is_route_course r.route.course) (have_marks r.route.course r.route.marks) (are_referents (length r.route.course) r.route.refs) r.route.fits in
    let short = not-true (is_too_long r.route.course) (and_parts (not (is_nothing r.route.course)) (not (is_too_long r.route.course)) fits.0).1 in
    by (or_parts (nat_lt most_pieces (piece_count r.route.course)) (nat_lt longest_route (length r.route.course)) short).1 (cases_lt longest_route (length r.route.course))
  where
    by : nat_lt longest_route (length r.route.course) ≡ false → (longest_route < length r.route.course) ⊎ (length r.route.course ≤ longest_route) → length r.route.course ≤ longest_route
    by e (inl h) = absurd (both_ways (nat_lt longest_route (length r.route.course)) e (lt-ltb longest_route (length r.route.course) h))
    by e (inr h) = h

-- ---- assets

ties : (n : ℕ) (assets : List Asset) → list_any (λ a. eq_by_cmp nat_cmp n a.number) assets ≡ list_any (λ a. nat_eq n a.number) assets
ties n [] = refl
ties n (a ∷ others) = λ j. unsigned_tied n a.number j || ties n others j

pub knows : (n : ℕ) (i : Image) → contains_key (state_of i).assets n ≡ list_any (λ (a : Asset). nat_eq n a.number) i.assets
unfolding state_of
knows n i = is_some-find_row nat_cmp_total nat_cmp-IsAntisymmetric asset_entry i.assets n ∙ ties n i.assets

asset_chain : (a b c : Asset) → asset_before a b ≡ true → asset_before b c ≡ true → asset_before a c ≡ true
asset_chain a b c h k = grind (arith, nat_tests)

others : (a : Asset) (assets : List Asset) → list_any (λ b. nat_eq a.number b.number) assets ≡ false → is_comparable asset_before a assets ≡ true
others a [] fresh = refl
others a (b ∷ bs) fresh =
    let apart = or_parts (nat_eq a.number b.number) (list_any (λ c. nat_eq a.number c.number) bs) fresh in
    and_from (asset_before a b || asset_before b a) (is_comparable asset_before a bs) (either a.number b.number apart.0) (others a bs apart.1)
  where
    either : (m n : ℕ) → nat_eq m n ≡ false → (nat_lt m n || nat_lt n m) ≡ true
    either m n h = grind (arith, nat_tests)

-- what the checks of an entry have found
pub record IsEntry (e : NewAsset) (i : Image) (r : RouteRow) (x : EventStretch) : Type 0 where
  pub fresh : list_any (λ (a : Asset). nat_eq e.asset a.number) i.assets ≡ false
  pub asset : is_asset i.classes (asset_of (length i.edits + 1) e) ≡ true
  pub route : IsRouteIn i r
  pub name : r.route.name ≡ e.route
  pub filled : x.from < x.to
  pub within : x.to ≤ length r.route.course

-- An image in order, whose entered parts are of its edits and assets, and a route over its links.
pub record IsOpen (i : Image) (r : RouteRow) : Type 0 where
  pub orderly : IsOrderly i
  pub routes : each_two route_before i.routes ≡ true
  pub on_links : list_all (is_on_a_link i.links) r.route.course ≡ true
  pub parts : list_all (is_part i.links i.assets) i.entered ≡ true
  pub edits : list_all (is_named_by i.edits) i.entered ≡ true

-- Each route of a sound image is one.
pub is_open : (i : Image) (r : RouteRow) → IsSound i → In r i.routes → IsOpen i r
is_open i r s m =
    let p = passes i s in
    let keys = each_two (λ (d f : Edit). not (same_name d.key f.key)) i.edits in
    let named = list_all (is_named_by i.edits) i.entered in
    let gone_named = list_all (is_named_by i.edits) (parts_of i.gone) in
    let known = list_all (is_part i.links i.assets) i.entered in
    let few = list_all (λ a. nat_le (pairs_of a.number i.entered) most_pairs) i.assets in
    record {
      orderly = sound_is_orderly i s;
      routes = routes_in_order i s;
      on_links = (alone i r s m).on_links;
      parts = (and_three known (each_two share_nothing i.entered) few (and_parts (each_two part_before i.entered) (are_parts i.links i.assets i.entered) p.entered).1).0;
      edits = (and_three keys named gone_named (and_parts (keys && named && gone_named) (nat_le (length i.edits) most_edits) p.edits).0).1;
    }

-- ---- the asset, its row and its ledger come

module _ (e : NewAsset) (i : Image) (r : RouteRow) (x : EventStretch) (parts : List Part) (ready : IsOpen i r) (is : IsEntry e i r x) (led : AreEntered (length i.edits + 1) r.route.course (row_of e x) parts) where
  abbrev n : ℕ
  n = length i.edits + 1

  abbrev places : List Place
  places = places_on e.side (slice_range r.route.course x.from x.to)

  abbrev row : Span
  row = row_of e x

  abbrev asset : Asset
  asset = asset_of n e

  -- the route with the row
  abbrev more : RouteRow
  more = record r { spans = insert_by span_before row r.spans }

  abbrev new_assets : List Asset
  new_assets = insert_by asset_before asset i.assets

  abbrev new_routes : List RouteRow
  new_routes = insert_by route_before more (without e.route i.routes)

  abbrev new : Image
  new = record i { assets = new_assets; routes = new_routes; entered = i.entered ++ parts }

  found : list.find (is_named e.route) i.routes ≡ Some r
  found = ap (λ n. list.find (is_named n) i.routes) (sym is.name) ∙ is.route

  rows_are : changed span_before [] (row ∷ []) r.spans ≡ insert_by span_before row r.spans
  rows_are = ap (insert_by span_before row) (keep_all r.spans)

  pub becomes : routes_after (Some (with_row e.route row)) i.routes ≡ new_routes
  becomes = routes_are i ready.routes e.route [] (row ∷ []) r is.name found (insert_by span_before row r.spans) rows_are

  is_new : with_difference (entering n e x parts) i ≡ new
  is_new = λ j. record new { routes = becomes j; gone = append-nil i.gone j }

  in_routes : In r i.routes
  in_routes = route_in i r is.route

  same : DifferAt r more i.routes new_routes
  same = differ i ready.routes e.route [] (row ∷ []) r is.name found (insert_by span_before row r.spans) rows_are

  -- ---- the state

  held : (a : ℕ) (p : Place) → list_any (λ f. holds_on f a p) new_routes ≡ (list_any (λ f. holds_on f a p) i.routes || (nat_eq a e.asset && is_among places p))
  held a p = any_more r more i.routes new_routes same (λ f. holds_on f a p) (nat_eq a e.asset && is_among places p)
      (any_insert (λ span. holds_by_span r.route.course span a p) span_before row r.spans
      ∙ swap (holds_by_span r.route.course row a p) (holds_on r a p)
      ∙ ap (λ b. holds_on r a p || (b && is_among places p)) (nat_eq-comm e.asset a))
    where
      swap : (a b : Bool) → (a || b) ≡ (b || a)
      swap true true = refl
      swap true false = refl
      swap false true = refl
      swap false false = refl

  named : (m a : ℕ) (p : Place) → list_any (λ part. has_pair part m a p) (i.entered ++ parts) ≡ (list_any (λ part. has_pair part m a p) i.entered || (nat_eq m n && nat_eq a e.asset && is_among places p))
  named m a p =
      list_any-append (λ part. has_pair part m a p) i.entered parts
      ∙ ap (λ b. list_any (λ part. has_pair part m a p) i.entered || b)
      (led.pairs m a p ∙ ap (λ b. nat_eq m n && (b && is_among places p)) (nat_eq-comm e.asset a) ∙ regroup (nat_eq m n) (nat_eq a e.asset) (is_among places p))
    where
      regroup : (a b c : Bool) → (a && (b && c)) ≡ ((a && b) && c)
      regroup true b c = refl
      regroup false b c = refl

  state-new : enter_asset n e places (state_of i) ≡ state_of new
  unfolding state_of
  state-new = λ j. record (state_of i) {
    assets = record { rows = put-insert_by nat_cmp_total nat_cmp-IsAntisymmetric asset_entry asset_before (λ a b. numbers_agree a.number b.number) asset i.assets (ties e.asset i.assets ∙ is.fresh) j };
    routes = record { rows = sym (map_same r more i.routes new_routes same route_entry refl) j };
    referents = λ name. find name_cmp name (sym (made_same r more i.routes new_routes same referents_on refl) j);
    holds = λ a p. sym (held a p) j;
    entered = λ m a p. sym (named m a p) j;
  }

  -- ---- the rows are in order

  o : IsOrderly i
  o = ready.orderly

  asset_tests : (each_two asset_before i.assets ≡ true) × (list_all (is_asset i.classes) i.assets ≡ true) × (nat_le (length i.assets) most_assets ≡ true)
  asset_tests = and_three (each_two asset_before i.assets) (list_all (is_asset i.classes) i.assets) (nat_le (length i.assets) most_assets) o.assets

  assets : length i.assets + 1 ≤ most_assets → are_assets i.classes new_assets ≡ true
  assets room =
      and_from (each_two asset_before new_assets && list_all (is_asset i.classes) new_assets) (nat_le (length new_assets) most_assets)
      (and_from (each_two asset_before new_assets) (list_all (is_asset i.classes) new_assets)
      (each_two-insert_by asset_before asset_chain asset i.assets (others asset i.assets is.fresh) asset_tests.0)
      (all-insert_by (is_asset i.classes) asset_before asset i.assets is.asset asset_tests.1))
      (le-leb (length new_assets) most_assets (omega (arith, length-insert_by asset_before asset i.assets, room)))

  still_span : (len : ℕ) (q : Span) → is_span i.assets len q ≡ true → is_span new_assets len q ≡ true
  still_span len q h =
      let known = λ (a : Asset). nat_eq a.number q.asset && same_name a.class q.class in
      and_weaker (nat_le q.to len) (list_any known i.assets) (nat_le q.to len) (list_any known new_assets) (λ k. k) (any-insert_by known asset_before asset i.assets) h

  still_spans_of : (f : RouteRow) → are_spans_of i.assets (spans_entry f) ≡ true → are_spans_of new_assets (spans_entry f) ≡ true
  still_spans_of f h =
      and_weaker (are_rows f.spans) (list_all (is_span i.assets (length f.route.course)) f.spans) (are_rows f.spans) (list_all (is_span new_assets (length f.route.course)) f.spans)
      (λ k. k) (all_weaker (is_span i.assets (length f.route.course)) (is_span new_assets (length f.route.course)) f.spans (still_span (length f.route.course))) h

  each_route : list_all (λ f. are_spans_of i.assets (spans_entry f)) i.routes ≡ true
  each_route = sym (list_all-map (are_spans_of i.assets) spans_entry i.routes) ∙ o.spans

  row_tests : (are_rows r.spans ≡ true) × (list_all (is_span i.assets (length r.route.course)) r.spans ≡ true)
  row_tests = and_parts (are_rows r.spans) (list_all (is_span i.assets (length r.route.course)) r.spans) (all_at (λ f. are_spans_of i.assets (spans_entry f)) r i.routes each_route in_routes)

  no_row : IsNew e.asset r.spans
  no_row q m same =
      let known = λ (a : Asset). nat_eq a.number q.asset && same_name a.class q.class in
      let found = any_found known i.assets (and_parts (nat_le q.to (length r.route.course)) (list_any known i.assets) (all_at (is_span i.assets (length r.route.course)) q r.spans row_tests.1 m)).1 in
      let number = eqb-true found.0.number q.asset (and_parts (nat_eq found.0.number q.asset) (same_name found.0.class q.class) found.2).0 in
      both_ways (list_any (λ (a : Asset). nat_eq e.asset a.number) i.assets) is.fresh (any_of (λ (a : Asset). nat_eq e.asset a.number) found.0 i.assets found.1 (eq-eqb e.asset found.0.number (sym same ∙ sym number)))

  short : row.to ≤ longest_route
  short = let a = is.within in let b = longest r in omega (arith, a, b)

  good_row : is_row row ≡ true
  good_row = and_from (nat_lt x.from x.to) (nat_le x.to longest_route) (lt-ltb x.from x.to is.filled) (le-leb x.to longest_route short)

  pub rows_kept : are_rows (insert_by span_before row r.spans) ≡ true
  rows_kept = still_rows row r.spans no_row good_row row_tests.0

  new_span : is_span new_assets (length r.route.course) row ≡ true
  new_span =
      let known = λ (a : Asset). nat_eq a.number e.asset && same_name a.class e.class in
      and_from (nat_le x.to (length r.route.course)) (list_any known new_assets) (le-leb x.to (length r.route.course) is.within)
      (any_insert known asset_before asset i.assets
      ∙ or_left (known asset) (list_any known i.assets) (and_from (nat_eq e.asset e.asset) (same_name e.class e.class) (eq-eqb e.asset e.asset refl) ((bytes_decides e.class e.class).1 refl)))

  its_spans : are_spans_of new_assets (spans_entry more) ≡ true
  its_spans =
      let with = insert_by span_before row r.spans in
      and_from (are_rows with) (list_all (is_span new_assets (length r.route.course)) with) rows_kept
      (all-insert_by (is_span new_assets (length r.route.course)) span_before row r.spans new_span (all_weaker (is_span i.assets (length r.route.course)) (is_span new_assets (length r.route.course)) r.spans (still_span (length r.route.course)) row_tests.1))

  spans : list_all (are_spans_of new_assets) (spans_of new) ≡ true
  spans =
      list_all-map (are_spans_of new_assets) spans_entry new_routes
      ∙ all_still r more i.routes new_routes same (λ f. are_spans_of new_assets (spans_entry f)) its_spans
      (all_weaker (λ f. are_spans_of i.assets (spans_entry f)) (λ f. are_spans_of new_assets (spans_entry f)) i.routes still_spans_of each_route)

  -- ---- the ledger

  earlier : (y z : Part) → In y i.entered → In z parts → y.edit < z.edit
  earlier y z m k =
      let high = leb-true y.edit (length i.edits) (and_parts (nat_le 1 y.edit) (nat_le y.edit (length i.edits)) (all_at (is_named_by i.edits) y i.entered ready.edits m)).1 in
      let b = of_edit i.links o.links r.route.course ready.on_links n row short parts led z k in
      omega (arith, high, b)

  weaker : (y z : Part) → share_nothing y z ≡ true → share_nothing_in_an_edit y z ≡ true
  weaker y z = or_right (not (nat_eq y.edit z.edit)) (share_nothing y z)

  apart : each_two share_nothing_in_an_edit (i.entered ++ parts) ≡ true
  apart = each_two-append share_nothing_in_an_edit i.entered parts o.entered_apart
      (each_two_from share_nothing share_nothing_in_an_edit parts (λ y z m k. weaker y z) (parts_apart parts led.once led.filled))
      (λ y z m k. apart_by_edit y z (earlier y z m k))

  -- the new asset had no pairs, and the others have as many as before
  none_before : pairs_of e.asset i.entered ≡ 0
  none_before = no_pairs e.asset i.entered (λ y m same.
      let on = nat_lt y.from y.to && list_any (λ l. nat_eq l.number y.link && nat_le y.to l.length) i.links in
      let found = any_found (λ (a : Asset). nat_eq a.number y.asset) i.assets (and_parts on (list_any (λ a. nat_eq a.number y.asset) i.assets) (all_at (is_part i.links i.assets) y i.entered ready.parts m)).1 in
      both_ways (list_any (λ (a : Asset). nat_eq e.asset a.number) i.assets) is.fresh (any_of (λ (a : Asset). nat_eq e.asset a.number) found.0 i.assets found.1 (eq-eqb e.asset found.0.number (sym same ∙ sym (eqb-true found.0.number y.asset found.2)))))

  few_pairs : list_all (λ a. nat_le (pairs_of a.number (i.entered ++ parts)) most_pairs) new_assets ≡ true
  few_pairs = all-insert_by (λ a. nat_le (pairs_of a.number (i.entered ++ parts)) most_pairs) asset_before asset i.assets
      (le-leb (pairs_of e.asset (i.entered ++ parts)) most_pairs (omega (arith, pairs-append e.asset i.entered parts, none_before, few i.links o.links r.route.course ready.on_links n row short parts led)))
      (all_of (λ a. nat_le (pairs_of a.number (i.entered ++ parts)) most_pairs) i.assets (λ a m.
      let none = no_pairs a.number parts (λ y k same. both_ways (list_any (λ (b : Asset). nat_eq e.asset b.number) i.assets) is.fresh (any_of (λ (b : Asset). nat_eq e.asset b.number) a i.assets m
      (eq-eqb e.asset a.number (sym (of_asset i.links o.links r.route.course ready.on_links n row short parts led y k) ∙ same)))) in
      let old = leb-true (pairs_of a.number i.entered) most_pairs (all_at (λ a. nat_le (pairs_of a.number i.entered) most_pairs) a i.assets o.entered_few m) in
      le-leb (pairs_of a.number (i.entered ++ parts)) most_pairs (omega (arith, pairs-append a.number i.entered parts, none, old))))

  new_orderly : length i.assets + 1 ≤ most_assets → IsOrderly new
  new_orderly room = record {
    links = o.links;
    classes = o.classes;
    assets = assets room;
    courses = ap (are_courses i.links) (map_same r more i.routes new_routes same (λ f. let c : RouteCourse = record { route = f.route.name; entries = f.route.course } in c) refl) ∙ o.courses;
    marks = ap are_all_marks (map_same r more i.routes new_routes same (λ f. let c : RouteMarks = record { course = f.route.course; marks = f.route.marks } in c) refl) ∙ o.marks;
    referents = ap are_all_referents (map_same r more i.routes new_routes same (λ f. let c : RouteReferents = record { length = length f.route.course; refs = f.route.refs } in c) refl) ∙ o.referents;
    spans = spans;
    entered_order = each_two-append part_before i.entered parts o.entered_order led.order (λ y z m k. later_part y z (earlier y z m k));
    entered_filled = all-append is_filled i.entered parts o.entered_filled led.filled;
    entered_apart = apart;
    entered_few = few_pairs;
    gone_order = o.gone_order;
    gone_filled = o.gone_filled;
    gone_apart = o.gone_apart;
    keys = o.keys;
    few_edits = o.few_edits;
  }

  -- What is entered is what the machine enters, and leaves the rows in order.
  pub state : enter_asset n e places (state_of i) ≡ state_of (with_difference (entering n e x parts) i)
  state = state-new ∙ ap state_of (sym is_new)

  pub orderly : length i.assets + 1 ≤ most_assets → IsOrderly (with_difference (entering n e x parts) i)
  orderly room = subst IsOrderly (sym is_new) (new_orderly room)

-- ---- the plan

module _ (e : NewAsset) (i : Image) (r : RouteRow) (x : EventStretch) (parts : List Part) (s : IsSound i) (is : IsEntry e i r x) (led : AreEntered (length i.edits + 1) r.route.course (row_of e x) parts) where
  abbrev edit : ℕ
  edit = length i.edits + 1

  its : IsOpen i r
  its = is_open i r s (route_in i r is.route)

  found_so : list.find (is_named e.route) i.routes ≡ Some r
  found_so = found e i r x parts its is led

  kept_so : changed span_before [] (row_of e x ∷ []) r.spans ≡ insert_by span_before (row_of e x) r.spans
  kept_so = rows_are e i r x parts its is led

  pub makes : attempt edit (verb.Enter e) (state_of i) ≡ Ok (enter_asset edit e (places_on e.side (slice_range r.route.course x.from x.to)) (state_of i)) → IsPlanOf (verb.Enter e) i (plan_of (entering edit e x parts))
  makes done = record {
    makes = record {
      state = done ∙ ap Ok (state e i r x parts its is led);
      edits = refl;
      orderly = λ room. orderly e i r x parts its is led (room.assets refl);
    };
    differ = can i its.routes e.route [] (row_of e x ∷ []) r is.name found_so (insert_by span_before (row_of e x) r.spans) kept_so (Some (asset_of edit e)) parts [] (rows_kept e i r x parts its is led) refl refl;
    tells = tells i its.routes e.route [] (row_of e x ∷ []) r is.name found_so (insert_by span_before (row_of e x) r.spans) kept_so (Some (asset_of edit e)) parts [];
  }

-- what the checks of an entry have found
pub is_entry : (e : NewAsset) (i : Image) (only_exclusive : Bool) (kind : Kind) (r : RouteRow) (x : EventStretch) → IsWanted i only_exclusive e kind r x → AreInLimits e → IsEntry e i r x
is_entry e i only_exclusive kind r x w limits =
    let known : list_any (λ c. same_name c.name e.class) i.classes ≡ true = sym (new_class.knows e.class i) ∙ ap is_some w.begun.class in
    record {
      fresh = sym (knows e.asset i) ∙ w.begun.fresh;
      asset = and_from (is_asset_number e.asset && is_lateral_offset e.offset) (list_any (λ c. same_name c.name e.class) i.classes) (and_from (is_asset_number e.asset) (is_lateral_offset e.offset) limits.number limits.lateral) known;
      route = w.begun.route;
      name = w.begun.name;
      filled = w.filled;
      within = w.within;
    }

-- The verb enters the asset, where its checks have passed.
pub enters : (e : NewAsset) (i : Image) (kind : Kind) (r : RouteRow) (x : EventStretch) (p : Plan) → IsSound i → IsWanted i false e kind r x → AreInLimits e
    → refuse_at (cond (is_exclusive kind) (first_holder (state_of i) e.class (places_on e.side (part_of r.route.course x))) None) cause.Overlap ≡ Ok tt
    → IsEntering (length i.edits + 1) e x r.route.course p → IsPlanOf (verb.Enter e) i p
enters e i kind r x p s w limits free entered =
    subst (IsPlanOf (verb.Enter e) i) (sym entered.plan_is)
    (makes e i r x entered.parts s (is_entry e i false kind r x w limits) entered.entered (then_held e (length i.edits + 1) (state_of i) _ w.wanted (Ok tt) free))
