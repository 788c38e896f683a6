-- The rows of an asset on a route are its canonical rows in the state.
use Rattle.std.proofs.Common.{arith, ◌≡◌, ℕ, zero, suc, true, false, ◌⊎◌, inl, inr, List, [], ◌∷◌, ◌++◌, map, length, Option, Some, None, Result, Ok, Err, subst, refl, sym, ap, ◌∙◌}
use Rattle.std.specs.Prelude.{◌&&◌, nat_eq, nat_le, nat_lt, slice_get, filter, MatchOption}
use Rattle.std.specs.List.{list_any, list_all, flat_map, filter_map}
use Rattle.std.specs.Option.{option_map, option_map_or}
use Rattle.std.specs.List as list
use Rattle.std.specs.Ordering.{is_eq, nat_cmp}
use Rattle.std.proofs.lemmas.Cmp.{nat_cmp_total}
use Rattle.std.specs.Cmp.Lexicographic.{nat_list_cmp_total, bytes_decides}
use Rattle.std.proofs.lemmas.Bool.{both_ways, and_parts, and_from, cases_Bool, eqb-true, ltb-true}
use Rattle.std.proofs.lemmas.List.Folds.{flat_map-map}
use Rattle.lrs_measure.specs.Runs.{runs_of, same_option}
use Rattle.lrs_measure.specs.Texts.{same_name}
use Rattle.lrs_measure.specs.Lists.{In}
use Rattle.lrs_measure.proofs.Members.{any_found, all_at, all_weaker, two_at}
use Rattle.lrs_measure.proofs.Filters.{filter_alike}
use Rattle.lrs_element.specs.declared.link.Ground.{Ground}
use Rattle.lrs_position.specs.Locations.{Alignment}
use Rattle.lrs_events.specs.declared.class.Asset.{Asset}
use Rattle.lrs_events.specs.declared.side.LinkSide.TheVariants.{Left, Right}
use Rattle.lrs_events.specs.declared.span.Span.{Span}
use Rattle.lrs_events.specs.Canonical.{side_of, side_held, held_run, canonical_rows}
use Rattle.lrs_events.specs.Spans.{are_rows, same_side, holds_by_spans}
use Rattle.lrs_events.specs.Row.Members.{is_of}
use Rattle.lrs_events.specs.Row.RunLaws.{row_run, end_within}
use Rattle.lrs_events.proofs.Row.RunLaws.{rows_are_canonical}
use Rattle.lrs_machine.specs.declared.image.RouteRow.{RouteRow}
use Rattle.lrs_machine.specs.declared.image.Image.{Image}
use Rattle.lrs_machine.specs.Image.{state_of, route_entry}
use Rattle.lrs_machine.specs.Readings.{rows_of}
use Rattle.lrs_machine.specs.Register.{get}
use Rattle.lrs_machine.specs.Sound.{IsSound, asset_before, is_span}
use Rattle.lrs_image.proofs.Tables.{assets_in_order, routes_in_order}
use Rattle.lrs_report_answers.specs.declared.rows.FoundRow.{FoundRow}
use Rattle.lrs_report_answers.specs.AssetStretches.{found_row, all_rows_of, rows_on}
use Rattle.lrs_image_laws.proofs.Holding.{alone, held_at, rows_held_at}
use Rattle.lrs_ordered.proofs.Keys.{finds_number}
use Rattle.lrs_machine.specs.Image.{asset_entry}
use Rattle.lrs_machine.specs.State as state
use Rattle.lrs_machine.proofs.Finding.{find_member}
use Rattle.lrs_report_answers.specs.declared.fault.AskFault.{AskFault}
use Rattle.lrs_report_answers.specs.declared.fault.AskFault.TheVariants.{Memory}
use Rattle.lrs_report_answers.specs.Answers.{UnlessMemory, asset_missing}
use Rattle.lrs_report_answers.specs.AssetStretches.{IsFound}
use Rattle.lrs_report_answers.proofs.Asked.{values_found, found_in, found_passes}
use Rattle.lrs_report_answers.proofs.Joined.{is_false}
use Rattle.lrs_report_answers.proofs.OfState.{row_tests, rows_fit}

flat_map-same : {X Y : Type 0} (f h : X → List Y) (xs : List X) → ((x : X) → In x xs → f x ≡ h x) → flat_map f xs ≡ flat_map h xs
flat_map-same f h [] same = refl
flat_map-same f h (x ∷ xs) same = λ i. same x (inl refl) i ++ flat_map-same f h xs (λ y m. same y (inr m)) i

-- what is read at each entry of a course
map-entries : {X : Type 0} (f h : Ground → X) (c : List Ground) → ((j : ℕ) (g : Ground) → slice_get c j ≡ Some g → f g ≡ h g) → map f c ≡ map h c
map-entries f h [] same = refl
map-entries f h (g ∷ gs) same = λ i. same zero g refl i ∷ map-entries f h gs (λ j x e. same (suc j) x e) i

map-map : {X Y Z : Type 0} (f : Y → Z) (h : X → Y) (xs : List X) → map f (map h xs) ≡ map (λ x. f (h x)) xs
map-map f h [] = refl
map-map f h (x ∷ xs) = ap (λ t. f (h x) ∷ t) (map-map f h xs)

module _ (i : Image) (sound : IsSound i) (a : Asset) (known : In a i.assets) where
  not_below : (m n : ℕ) → m ≡ n → nat_lt m n ≡ true → ⊥
  not_below m n e h = let l = ltb-true m n h in omega (arith, e, l)

  one : (b : Asset) → In b i.assets → b.number ≡ a.number → b ≡ a
  one b m e = by (two_at asset_before b a i.assets (assets_in_order i sound) m known)
    where
      by : (b ≡ a) ⊎ ((asset_before b a ≡ true) ⊎ (asset_before a b ≡ true)) → b ≡ a
      by (inl w) = w
      by (inr (inl w)) = absurd (not_below b.number a.number e w)
      by (inr (inr w)) = absurd (not_below a.number b.number (sym e) w)

  module _ (r : RouteRow) (m : In r i.routes) where
    -- a row of the asset is of its class
    pub row_of_class : (q : Span) → In q r.spans → nat_eq q.asset a.number ≡ is_of a.class a.number q
    row_of_class q n = by (cases_Bool (nat_eq q.asset a.number))
      where
        by : (nat_eq q.asset a.number ≡ true) ⊎ (nat_eq q.asset a.number ≡ false) → nat_eq q.asset a.number ≡ is_of a.class a.number q
        by (inl e) =
            let span = and_parts (nat_le q.to (length r.route.course)) (list_any (λ (b : Asset). nat_eq b.number q.asset && same_name b.class q.class) i.assets) (all_at (is_span i.assets (length r.route.course)) q r.spans (rows_fit i r sound m) n) in
            let b = any_found (λ (b : Asset). nat_eq b.number q.asset && same_name b.class q.class) i.assets span.1 in
            let its = and_parts (nat_eq b.0.number q.asset) (same_name b.0.class q.class) b.2 in
            let is = one b.0 b.1 (eqb-true b.0.number q.asset its.0 ∙ eqb-true q.asset a.number e) in
            let class : q.class ≡ a.class = sym ((bytes_decides b.0.class q.class).0 its.1) ∙ ap (λ (x : Asset). x.class) is in
            e ∙ sym (and_from (same_name q.class a.class) (nat_eq q.asset a.number) ((bytes_decides q.class a.class).1 class) e)
        by (inr e) = e ∙ sym (is_false (is_of a.class a.number q) (λ t. both_ways (nat_eq q.asset a.number) e (and_parts (same_name q.class a.class) (nat_eq q.asset a.number) t).1))

    -- what the state holds on the route is what its rows hold
    held_alike : map (side_held (holds_by_spans r.route.course r.spans a.number)) r.route.course ≡ map (side_held ((state_of i).holds a.number)) r.route.course
    held_alike =
        let it = alone i r sound m in
        map-entries (side_held (holds_by_spans r.route.course r.spans a.number)) (side_held ((state_of i).holds a.number)) r.route.course (λ j g e k. side_of
        ((rows_held_at r.route.course r.spans j g Left it.once e a.number ∙ sym (held_at i r sound m j g Left e a.number)) k)
        ((rows_held_at r.route.course r.spans j g Right it.once e a.number ∙ sym (held_at i r sound m j g Right e a.number)) k))

    route_get : get (state_of i).routes r.route.name ≡ Some (route_entry r).1
    unfolding state_of
    route_get = find_member nat_list_cmp_total (λ (e : RouteRow). e.route.name) (λ e. (route_entry e).1) r i.routes (routes_in_order i sound) m

    rows_are : map row_run (filter (is_of a.class a.number) r.spans) ≡ rows_of (state_of i) r.route.name a.number
    rows_are =
        let it = alone i r sound m in
        let rows = (and_parts (are_rows r.spans) (list_all (is_span i.assets (length r.route.course)) r.spans) (row_tests i r sound m)).0 in
        let ends : end_within (length r.route.course) r.spans ≡ true =
        all_weaker (is_span i.assets (length r.route.course)) (λ q. nat_le q.to (length r.route.course)) r.spans
        (λ q t. (and_parts (nat_le q.to (length r.route.course)) (list_any (λ (b : Asset). nat_eq b.number q.asset && same_name b.class q.class) i.assets) t).0) (rows_fit i r sound m) in
        ap (map row_run) (sym (filter_alike (λ q. nat_eq q.asset a.number) (is_of a.class a.number) r.spans row_of_class))
        ∙ rows_are_canonical r.route.course r.spans it.once rows ends a.number
        ∙ ap (λ sides. filter_map held_run (runs_of (same_option same_side) sides)) held_alike
        ∙ ap (λ o. option_map_or (λ (al : Alignment). canonical_rows ((state_of i).holds a.number) al.course) o []) (sym route_get)

    on_route : rows_on a.class a.number r ≡ map (found_row r.route.name) (rows_of (state_of i) r.route.name a.number)
    on_route = sym (map-map (found_row r.route.name) row_run (filter (is_of a.class a.number) r.spans)) ∙ ap (map (found_row r.route.name)) rows_are

  -- The rows of an asset of its class on all routes.
  pub rows_of_all : flat_map (rows_on a.class a.number) i.routes ≡ all_rows_of (state_of i) a.number
  unfolding state_of
  rows_of_all =
      flat_map-same (rows_on a.class a.number) (λ r. map (found_row r.route.name) (rows_of (state_of i) r.route.name a.number)) i.routes on_route
      ∙ sym (flat_map-map (λ r. map (found_row r.0) (rows_of (state_of i) r.0 a.number)) route_entry i.routes)

-- ---- what is answered

module _ (i : Image) (n : ℕ) where
  -- the assets of the number, as a search finds it
  abbrev pub sought : Option Asset
  sought = list.find (λ a. is_eq (nat_cmp a.number n)) i.assets

  pub asset_is : get (state_of i).assets n ≡ option_map (λ a. (asset_entry a).1) sought
  unfolding state_of
  asset_is = values_found nat_cmp_total asset_entry i.assets n

  abbrev Given : Option state.Asset → Result (List FoundRow) AskFault → Type 0
  Given o result = MatchOption o (result ≡ Err asset_missing) (λ a. UnlessMemory (λ found. found ≡ all_rows_of (state_of i) n) result)

  there : (a : Asset) → Some a ≡ sought → Some (asset_entry a).1 ≡ get (state_of i).assets n
  there a h = ap (option_map (λ (x : Asset). (asset_entry x).1)) h ∙ sym asset_is

  -- what is found is a known asset of the number
  pub sought_known : (a : Asset) → Some a ≡ sought → In a i.assets × (a.number ≡ n)
  sought_known a h =
      let by_number = sym (finds_number (λ (x : Asset). x.number) n i.assets) ∙ sym h in
      (found_in (λ (x : Asset). nat_eq x.number n) a i.assets by_number, eqb-true a.number n (found_passes (λ (x : Asset). nat_eq x.number n) a i.assets by_number))

  pub rows_found : (a : Asset) (found : List FoundRow) → IsSound i → Some a ≡ sought → found ≡ flat_map (rows_on a.class a.number) i.routes → IsFound (state_of i) n (Ok found)
  rows_found a found sound h same =
      let its = sought_known a h in
      subst (λ (o : Option state.Asset). Given o (Ok found)) (there a h) (same ∙ rows_of_all i sound a its.0 ∙ ap (all_rows_of (state_of i)) its.1)

  pub no_memory : (a : Asset) → Some a ≡ sought → IsFound (state_of i) n (Err Memory)
  no_memory a h = subst (λ (o : Option state.Asset). Given o (Err Memory)) (there a h) (λ k. Memory)

  pub no_asset : None ≡ sought → IsFound (state_of i) n (Err asset_missing)
  no_asset h = subst (λ (o : Option state.Asset). Given o (Err asset_missing)) (ap (option_map (λ (x : Asset). (asset_entry x).1)) h ∙ sym asset_is) (λ k. Err asset_missing)
