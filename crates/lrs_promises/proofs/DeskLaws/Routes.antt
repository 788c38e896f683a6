-- The routes of a sound image by their names, with their courses and rows.
use Rattle.std.proofs.Common.{◌≡◌, ℕ, Bool, true, false, cond, ◌⊎◌, inl, inr, List, [], ◌∷◌, ◌++◌, map, filter, Option, Some, None, refl, sym, ap, ◌∙◌}
use Rattle.std.specs.Prelude.{◌&&◌, nat_eq, unwrap_or}
use Rattle.std.specs.List.{list_all, flat_map}
use Rattle.std.specs.Option.{option_map}
use Rattle.std.specs.Cmp.Lexicographic.{nat_list_cmp_total, bytes_decides}
use Rattle.std.proofs.lemmas.Bool.{both_ways, and_parts, cases_Bool}
use Rattle.std.proofs.lemmas.List.{append-nil}
use Rattle.std.proofs.lemmas.List.Elements.{filter-append}
use Rattle.lrs_measure.specs.Lists.{In, each_two}
use Rattle.lrs_measure.specs.Texts.{Name, same_name}
use Rattle.lrs_measure.proofs.Members.{all_at, map_found}
use Rattle.lrs_position.specs.Locations.{Alignment}
use Rattle.lrs_events.specs.declared.span.Span.{Span}
use Rattle.lrs_events.specs.Row.RunLaws.{rows_of_asset}
use Rattle.lrs_machine.specs.declared.image.RouteRow.{RouteRow}
use Rattle.lrs_machine.specs.declared.image.Image.{Image}
use Rattle.lrs_machine.specs.Image.{state_of, route_entry}
use Rattle.lrs_machine.specs.Register.{get}
use Rattle.lrs_machine.specs.Sound.{IsSound, route_before}
use Rattle.lrs_machine.proofs.Finding.{find_member, find_found}
use Rattle.lrs_image.proofs.Tables.{routes_in_order}
use Rattle.lrs_image_laws.proofs.Naming.{earlier_name, later_name}
use Rattle.std.proofs.lemmas.Map.Lookups.{exact_bytes}
use Rattle.lrs_promises.specs.DeskLaws.InventoryRows.{Row, row_on, courses_in}

abbrev pub named : RouteRow → List Row
named e = map (row_on e.route.name) e.spans

pub not_same : (m n : Name) → same_name m n ≡ false → m ≡ n → ⊥
not_same m n h e = both_ways (same_name m n) h ((bytes_decides m n).1 e)

-- ---- the rows of one route among those of all

module _ (route : Name) (asset : ℕ) where
  abbrev is_each : Row → Bool
  is_each r = same_name r.route route && nat_eq r.asset asset

  on_it : (name : Name) (rows : List Span) → same_name name route ≡ true → filter is_each (map (row_on name) rows) ≡ map (row_on name) (rows_of_asset asset rows)
  on_it name [] h = refl
  on_it name (q ∷ qs) h =
      ap (λ b. cond (b && nat_eq q.asset asset) (row_on name q ∷ filter is_each (map (row_on name) qs)) (filter is_each (map (row_on name) qs))) h
      ∙ by (nat_eq q.asset asset) (on_it name qs h)
    where
      by : (b : Bool) → filter is_each (map (row_on name) qs) ≡ map (row_on name) (rows_of_asset asset qs) → cond b (row_on name q ∷ filter is_each (map (row_on name) qs)) (filter is_each (map (row_on name) qs)) ≡ map (row_on name) (cond b (q ∷ rows_of_asset asset qs) (rows_of_asset asset qs))
      by true rest = ap (λ l. row_on name q ∷ l) rest
      by false rest = rest

  off_it : (name : Name) (rows : List Span) → same_name name route ≡ false → filter is_each (map (row_on name) rows) ≡ []
  off_it name [] h = refl
  off_it name (q ∷ qs) h =
      ap (λ b. cond (b && nat_eq q.asset asset) (row_on name q ∷ filter is_each (map (row_on name) qs)) (filter is_each (map (row_on name) qs))) h
      ∙ off_it name qs h

  pub none_there : (es : List RouteRow) → ((e : RouteRow) → In e es → same_name e.route.name route ≡ false) → filter is_each (flat_map named es) ≡ []
  none_there [] h = refl
  none_there (e ∷ es) h =
      filter-append is_each (named e) (flat_map named es)
      ∙ (λ i. off_it e.route.name e.spans (h e (inl refl)) i ++ none_there es (λ x m. h x (inr m)) i)

  pub only_there : (e : RouteRow) (es : List RouteRow) → each_two route_before es ≡ true → In e es → same_name e.route.name route ≡ true
      → filter is_each (flat_map named es) ≡ map (row_on e.route.name) (rows_of_asset asset e.spans)
  only_there e [] h m is = absurd m
  only_there e (y ∷ ys) h m is = filter-append is_each (named y) (flat_map named ys) ∙ by m (λ k. only_there e ys (and_parts (list_all (route_before y) ys) (each_two route_before ys) h).1 k is)
    where
      both : (list_all (route_before y) ys ≡ true) × (each_two route_before ys ≡ true)
      both = and_parts (list_all (route_before y) ys) (each_two route_before ys) h

      name : e.route.name ≡ route
      name = (bytes_decides e.route.name route).0 is

      by : (e ≡ y) ⊎ In e ys → (In e ys → filter is_each (flat_map named ys) ≡ map (row_on e.route.name) (rows_of_asset asset e.spans)) → filter is_each (named y) ++ filter is_each (flat_map named ys) ≡ map (row_on e.route.name) (rows_of_asset asset e.spans)
      by (inl k) rest =
          (λ i. on_it y.route.name y.spans (ap (λ (x : RouteRow). same_name x.route.name route) (sym k) ∙ is) i ++ none_there ys others i)
          ∙ append-nil (map (row_on y.route.name) (rows_of_asset asset y.spans))
          ∙ ap (λ (x : RouteRow). map (row_on x.route.name) (rows_of_asset asset x.spans)) (sym k)
        where
          others : (x : RouteRow) → In x ys → same_name x.route.name route ≡ false
          others x n = ap (same_name x.route.name) (sym name ∙ ap (λ (z : RouteRow). z.route.name) k) ∙ later_name y.route.name x.route.name (all_at (route_before y) x ys both.0 n)
      by (inr k) rest =
          (λ i. off_it y.route.name y.spans (ap (same_name y.route.name) (sym name) ∙ earlier_name y.route.name e.route.name (all_at (route_before y) e ys both.0 k)) i ++ filter is_each (flat_map named ys))
          ∙ rest k

-- ---- which route has a name

module _ (i : Image) (s : IsSound i) where
  pub route_get : (e : RouteRow) → In e i.routes → get (state_of i).routes e.route.name ≡ Some (route_entry e).1
  unfolding state_of
  route_get e m = find_member nat_list_cmp_total (λ (x : RouteRow). x.route.name) (λ x. (route_entry x).1) e i.routes (routes_in_order i s) m

  pub course_is : (e : RouteRow) → In e i.routes → courses_in (state_of i) e.route.name ≡ e.route.course
  course_is e m = ap (λ o. unwrap_or (option_map (λ (a : Alignment). a.course) o) []) (route_get e m)

  pub record IsNamed (route : Name) (e : RouteRow) : Type 0 where
    pub there : In e i.routes
    pub name : e.route.name ≡ route

  pub record NoneNamed (route : Name) : Type 0 where
    pub none : (e : RouteRow) → In e i.routes → same_name e.route.name route ≡ false
    pub course : courses_in (state_of i) route ≡ []

  pub which : (route : Name) → ((e : RouteRow) × IsNamed route e) ⊎ NoneNamed route
  unfolding state_of
  which route = by (get (state_of i).routes route) refl
    where
      by : (o : Option Alignment) → get (state_of i).routes route ≡ o → ((e : RouteRow) × IsNamed route e) ⊎ NoneNamed route
      by (Some a) is =
          let k = map_found route_entry (route, a) i.routes (find_found exact_bytes route a (map route_entry i.routes) is) in
          inl (k.0, record { there = k.1; name = sym (ap (λ (x : Name × Alignment). x.0) k.2) })
      by None is = inr (record { none = none; course = ap (λ o. unwrap_or (option_map (λ (a : Alignment). a.course) o) []) is })
        where
          none : (e : RouteRow) → In e i.routes → same_name e.route.name route ≡ false
          none e m = other (cases_Bool (same_name e.route.name route))
            where
              other : (same_name e.route.name route ≡ true) ⊎ (same_name e.route.name route ≡ false) → same_name e.route.name route ≡ false
              other (inr h) = h
              other (inl h) =
                  let there : Some (route_entry e).1 ≡ None = sym (route_get e m) ∙ ap (get (state_of i).routes) ((bytes_decides e.route.name route).0 h) ∙ is in
                  absurd (cc there)
