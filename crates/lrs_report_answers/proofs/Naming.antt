-- Rows on routes by their names, in order, are those on all routes, where no other route has any.
use Rattle.std.proofs.Common.{◌≡◌, Bool, true, false, cond, inl, inr, List, [], ◌∷◌, ◌++◌, Some, refl, sym, ap, ap₂, ◌∙◌}
use Rattle.std.specs.Prelude.{◌||◌}
use Rattle.std.specs.List.{list_any, list_all, find, flat_map, AllByRecursion}
use Rattle.std.specs.List.Sorted.{IsStrictlySortedBy}
use Rattle.std.specs.Option.{option_map_or}
use Rattle.std.specs.Ordering.{is_lt}
use Rattle.std.specs.declared.cmp.Ordering.{Ordering}
use Rattle.std.specs.declared.cmp.Ordering.TheVariants.{Less, Equal, Greater}
use Rattle.std.specs.Cmp.{IsStrictWeakOrder}
use Rattle.std.specs.Cmp.Lexicographic.{nat_list_cmp_total, bytes_decides, texts_ties}
use Rattle.std.specs.Ordering.{is_eq, ordering_reverse}
use Rattle.std.proofs.lemmas.Bool.{both_ways, and_parts, and_from, false_from_ne_true}
use Rattle.std.proofs.lemmas.List.Sorted.{ranks_by}
use Rattle.lrs_measure.specs.Lists.{In, each_two}
use Rattle.lrs_measure.specs.Texts.{Name, name_cmp, name_before, same_name}
use Rattle.lrs_measure.proofs.Members.{all_at}
use Rattle.lrs_events.proofs.LaneLists.Ranks.{itself, before_trans}
use Rattle.lrs_machine.specs.declared.image.RouteRow.{RouteRow}
use Rattle.lrs_machine.specs.Sound.{route_before}
use Rattle.lrs_image.specs.Change.{is_named}
use Rattle.lrs_position.specs.declared.route.Referent.{Referent}
use Rattle.lrs_report_answers.specs.DrawnRows.{stands_before}

-- ---- names

names_rank : IsStrictWeakOrder name_before
names_rank = ranks_by nat_list_cmp_total (λ (c : Name). c)

-- referents along a route are in an order
pub along_ranks : IsStrictWeakOrder stands_before
along_ranks = ranks_by nat_list_cmp_total (λ (r : Referent). r.at ∷ r.name)

-- of names in order neither is the other
later_differs : (a b : Name) → name_before a b ≡ true → same_name b a ≡ false
later_differs a b h = false_from_ne_true (same_name b a) (λ s. both_ways (name_before a a) (itself name_before names_rank a) (ap (name_before a) (sym ((bytes_decides b a).0 s)) ∙ h))

earlier_differs : (a b : Name) → name_before a b ≡ true → same_name a b ≡ false
earlier_differs a b h = false_from_ne_true (same_name a b) (λ s. both_ways (name_before a a) (itself name_before names_rank a) (ap (name_before a) ((bytes_decides a b).0 s) ∙ h))

-- names in order, as a set shows them
pub each_before : (names : List Name) → IsStrictlySortedBy name_cmp names → each_two name_before names ≡ true
unfolding IsStrictlySortedBy
each_before [] s = refl
each_before (n ∷ ns) s = and_from (list_all (name_before n) ns) (each_two name_before ns) (all ns s.0) (each_before ns s.1)
  where
    all : (ks : List Name) → AllByRecursion (λ k. name_cmp n k ≡ Less) ks → list_all (name_before n) ks ≡ true
    all [] h = refl
    all (k ∷ ks) h = and_from (name_before n k) (list_all (name_before n) ks) (ap is_lt h.0) (all ks h.1)

abbrev pub is_among : Name → List Name → Bool
is_among name names = list_any (same_name name) names

none_among : (name : Name) (names : List Name) → ((n : Name) → In n names → same_name name n ≡ false) → is_among name names ≡ false
none_among name [] h = refl
none_among name (n ∷ ns) h = λ j. h n (inl refl) j || none_among name ns (λ k m. h k (inr m)) j

module _ {Y : Type 0} (rows : RouteRow → List Y) where
  -- the rows on the route of a name
  abbrev pub rows_at : List RouteRow → Name → List Y
  rows_at routes name = option_map_or rows (find (is_named name) routes) []

  -- a route of another name is passed over
  passed : (r : RouteRow) (rs : List RouteRow) (name : Name) → same_name r.route.name name ≡ false → rows_at (r ∷ rs) name ≡ rows_at rs name
  passed r rs name h = ap (λ b. option_map_or rows (cond b (Some r) (find (is_named name) rs)) []) h

  found : (r : RouteRow) (rs : List RouteRow) (name : Name) → same_name r.route.name name ≡ true → rows_at (r ∷ rs) name ≡ rows r
  found r rs name h = ap (λ b. option_map_or rows (cond b (Some r) (find (is_named name) rs)) []) h

  all_passed : (r : RouteRow) (rs : List RouteRow) (names : List Name) → ((n : Name) → In n names → same_name r.route.name n ≡ false) → flat_map (rows_at (r ∷ rs)) names ≡ flat_map (rows_at rs) names
  all_passed r rs [] h = refl
  all_passed r rs (n ∷ ns) h = λ j. passed r rs n (h n (inl refl)) j ++ all_passed r rs ns (λ k m. h k (inr m)) j

  -- where none has the name, there are no rows
  none_named : (rs : List RouteRow) (name : Name) → ((r : RouteRow) → In r rs → same_name r.route.name name ≡ false) → rows_at rs name ≡ []
  none_named [] name h = refl
  none_named (r ∷ rs) name h = passed r rs name (h r (inl refl)) ∙ none_named rs name (λ k m. h k (inr m))

  no_routes : (names : List Name) → flat_map (rows_at []) names ≡ []
  no_routes [] = refl
  no_routes (n ∷ ns) = no_routes ns

  no_rows : (rs : List RouteRow) → ((r : RouteRow) → In r rs → rows r ≡ []) → flat_map rows rs ≡ []
  no_rows [] h = refl
  no_rows (r ∷ rs) h = λ j. h r (inl refl) j ++ no_rows rs (λ k m. h k (inr m)) j

  -- each route with rows is named
  abbrev pub AreNamed : List Name → List RouteRow → Type 0
  AreNamed names routes = (r : RouteRow) → In r routes → is_among r.route.name names ≡ false → rows r ≡ []

  -- the first name is of none of these routes
  named_later : (n : Name) (ns : List Name) (rs : List RouteRow) → ((r : RouteRow) → In r rs → same_name r.route.name n ≡ false) → AreNamed (n ∷ ns) rs → AreNamed ns rs
  named_later n ns rs h named r m far = named r m (λ j. h r m j || far j)

  -- Rows by names in order are the rows on all routes in order.
  pub by_names : (names : List Name) (routes : List RouteRow) → each_two name_before names ≡ true → each_two route_before routes ≡ true → AreNamed names routes → flat_map (rows_at routes) names ≡ flat_map rows routes
  by_names [] routes s o named = sym (no_rows routes (λ r m. named r m refl))
  by_names (n ∷ ns) [] s o named = no_routes (n ∷ ns)
  by_names (n ∷ ns) (r ∷ rs) s o named =
      by (name_cmp n r.route.name) refl (by_names ns (r ∷ rs) names.1 o) (by_names ns rs names.1 routes.1) (by_names (n ∷ ns) rs s routes.1)
    where
      names : (list_all (name_before n) ns ≡ true) × (each_two name_before ns ≡ true)
      names = and_parts (list_all (name_before n) ns) (each_two name_before ns) s

      routes : (list_all (route_before r) rs ≡ true) × (each_two route_before rs ≡ true)
      routes = and_parts (list_all (route_before r) rs) (each_two route_before rs) o

      later_route : (x : RouteRow) → In x rs → name_before r.route.name x.route.name ≡ true
      later_route x m = all_at (route_before r) x rs routes.0 m

      later_name : (k : Name) → In k ns → name_before n k ≡ true
      later_name k m = all_at (name_before n) k ns names.0 m

      by : (order : Ordering) → name_cmp n r.route.name ≡ order → (AreNamed ns (r ∷ rs) → flat_map (rows_at (r ∷ rs)) ns ≡ flat_map rows (r ∷ rs)) → (AreNamed ns rs → flat_map (rows_at rs) ns ≡ flat_map rows rs)
          → (AreNamed (n ∷ ns) rs → flat_map (rows_at rs) (n ∷ ns) ≡ flat_map rows rs) → flat_map (rows_at (r ∷ rs)) (n ∷ ns) ≡ flat_map rows (r ∷ rs)
      by Less e names_on both routes_on =
          let first : name_before n r.route.name ≡ true = ap is_lt e in
          let other : (x : RouteRow) → In x (r ∷ rs) → same_name x.route.name n ≡ false = λ x m. differs first x m in
          ap (λ ys. ys ++ flat_map (rows_at (r ∷ rs)) ns) (none_named (r ∷ rs) n other) ∙ names_on (named_later n ns (r ∷ rs) other named)
        where
          differs : name_before n r.route.name ≡ true → (x : RouteRow) → In x (r ∷ rs) → same_name x.route.name n ≡ false
          differs first x (inl same) = ap (λ (z : RouteRow). same_name z.route.name n) same ∙ later_differs n r.route.name first
          differs first x (inr m) = later_differs n x.route.name (before_trans name_before names_rank n r.route.name x.route.name first (later_route x m))
      by Equal e names_on both routes_on =
          let same : same_name n r.route.name ≡ true = texts_ties n r.route.name ∙ ap is_eq e in
          let is : n ≡ r.route.name = (bytes_decides n r.route.name).0 same in
          ap₂ (λ xs ys. xs ++ ys) (found r rs n ((bytes_decides r.route.name n).1 (sym is)))
          (all_passed r rs ns (λ k m. earlier_differs r.route.name k (ap (λ z. name_before z k) (sym is) ∙ later_name k m))
          ∙ both (named_later n ns rs (λ x m. later_differs n x.route.name (ap (λ z. name_before z x.route.name) is ∙ later_route x m)) (λ x m. named x (inr m))))
      by Greater e names_on both routes_on =
          let first : name_before r.route.name n ≡ true = ap is_lt (nat_list_cmp_total.antisymm r.route.name n ∙ ap ordering_reverse e) in
          let other : (k : Name) → In k (n ∷ ns) → same_name r.route.name k ≡ false = λ k m. differs first k m in
          all_passed r rs (n ∷ ns) other ∙ routes_on (λ x m. named x (inr m)) ∙ ap (λ ys. ys ++ flat_map rows rs) (sym (named r (inl refl) (none_among r.route.name (n ∷ ns) other)))
        where
          differs : name_before r.route.name n ≡ true → (k : Name) → In k (n ∷ ns) → same_name r.route.name k ≡ false
          differs first k (inl same) = ap (same_name r.route.name) same ∙ earlier_differs r.route.name n first
          differs first k (inr m) = earlier_differs r.route.name k (before_trans name_before names_rank r.route.name n k first (later_name k m))
