-- Entries of routes, and the combinations that they make.
use Rattle.std.proofs.Common.{◌≡◌, ℕ, ◌+◌, ◌<◌, ◌≤◌, ◌^◌, Bool, true, false, cond, ◌⊎◌, inl, inr, List, [], ◌∷◌, length, map, sum_by, refl, sym, ap, ap₂, subst, ◌∙◌, arith}
use Rattle.std.specs.Prelude.{◌||◌, IsPermutation}
use Rattle.std.specs.List.{count_by, list_all, list_any, AllByRecursion}
use Rattle.std.specs.Ordering.{is_lt}
use Rattle.std.proofs.lemmas.Bool.{both_ways, and_parts, false_from_ne_true, not_from_false, or_cases}
use Rattle.std.proofs.lemmas.List.{length-map}
use Rattle.std.proofs.lemmas.List.Sorted.{list_any-IsPermutation, sum_by-IsPermutation}
use Rattle.std.proofs.lemmas.List.Sums.{sum_by-cons}
use Rattle.lrs_measure.specs.Lists.{In, each_two}
use Rattle.lrs_measure.specs.Texts.{Name}
use Rattle.lrs_measure.proofs.Counts.{count_cons}
use Rattle.lrs_measure.proofs.EachTwo.{each_two_from}
use Rattle.lrs_measure.proofs.Members.{all_at, all_of, any_found, any_of}
use Rattle.lrs_element.specs.declared.link.Ground.{Ground}
use Rattle.lrs_events.specs.Places.{beside}
use Rattle.lrs_events.specs.declared.side.LinkSide.{LinkSide}
use Rattle.lrs_events.specs.declared.side.LinkSide.TheVariants as side
use Rattle.lrs_machine.specs.declared.image.RouteRow.{RouteRow}
use Rattle.lrs_machine.specs.Readings.{asset_list}
use Rattle.lrs_machine.specs.Segments.{Values, same_values, value_of}
use Rattle.lrs_machine.specs.State.{State}
use Rattle.lrs_report_lists.specs.Length.Parts.{route_length}
use Rattle.lrs_report_answers.specs.declared.combinations.Combination.{Combination}
use Rattle.lrs_report_answers.specs.declared.combinations.table.Part.{Part}
use Rattle.lrs_report_answers.specs.declared.combinations.table.Part.TheVariants.{Left, Right, Either}
use Rattle.lrs_report_answers.specs.Combinations.{AreCombinationsOn, HasLengths, combination_before, count_on, has_either, has_on}
use Rattle.lrs_report_answers.specs.CombinationParts.{Count, CountRoutes, Fit, IsTable, has_values, is_ahead, is_counted, part_of, total_of}
use Rattle.lrs_report_answers.proofs.Combined.Order.{alike_level, before_as_cmp, values_equal, values_itself}
use Rattle.lrs_report_answers.proofs.Combined.Groups.{later_differs, total_none}

nothing : (x : Bool) → (x || false) ≡ x
nothing true = refl
nothing false = refl

or_turn : (x y z : Bool) → ((x || y) || z) ≡ (x || (y || z))
or_turn true y z = refl
or_turn false y z = refl

-- ---- routes, one after the other

module _ (s : State) (classes : List Name) where
  abbrev is_seen : Values → RouteRow → Bool
  is_seen v e = list_any (has_either s classes v) e.route.course

  pub routes_first : (all : List RouteRow) → CountRoutes s classes [] all all
  routes_first all = record { totals = λ part v. omega arith; exact = λ v. refl }

  next_of : (e : RouteRow) (rest all : List RouteRow) (entries after : List Combination) → CountRoutes s classes entries (e ∷ rest) all → Count s classes entries e.route.course after [] → CountRoutes s classes after rest all
  next_of e rest all entries after done one = record {
    totals = λ part v.
        let here = one.totals part v in
        let before = done.totals part v in
        let split = sum_by-cons (λ (f : RouteRow). count_by (is_counted s classes part v) f.route.course) e rest in
        omega (arith, here, before, split);
    exact = λ v.
        ap (λ t. t || list_any (is_seen v) rest) (sym (nothing (list_any (has_values v) after)) ∙ one.exact v)
        ∙ or_turn (list_any (has_values v) entries) (is_seen v e) (list_any (is_seen v) rest)
        ∙ done.exact v;
  }

  pub routes_next : (e : RouteRow) (rest left all : List RouteRow) (entries after : List Combination) → left ≡ e ∷ rest → CountRoutes s classes entries left all → Count s classes entries e.route.course after [] → CountRoutes s classes after rest all
  routes_next e rest left all entries after is done one = next_of e rest all entries after (subst (λ (xs : List RouteRow). CountRoutes s classes entries xs all) is done) one

  -- one route alone
  pub route_done : (e : RouteRow) (entries after : List Combination) → entries ≡ [] → Count s classes entries e.route.course after [] → CountRoutes s classes after [] (e ∷ [])
  route_done e entries after none one = next_of e [] (e ∷ []) [] after (routes_first (e ∷ [])) (subst (λ (es : List Combination). Count s classes es e.route.course after []) none one)

-- ---- no sum is too great

count_within : {X : Type 0} (p : X → Bool) (xs : List X) → count_by p xs ≤ length xs
count_within p [] = omega arith
count_within p (x ∷ xs) = by (p x) (count_cons p x xs) (count_within p xs)
  where
    by : (b : Bool) → count_by p (x ∷ xs) ≡ cond b 1 0 + count_by p xs → count_by p xs ≤ length xs → count_by p (x ∷ xs) ≤ length (x ∷ xs)
    by true e rest = omega (arith, e, rest)
    by false e rest = omega (arith, e, rest)

count_no_longer : (p : Ground → Bool) (routes : List RouteRow) → count_on p routes ≤ sum_by route_length routes
count_no_longer p [] = omega arith
count_no_longer p (e ∷ es) =
    let a = sum_by-cons (λ (f : RouteRow). count_by p f.route.course) e es in
    let b = sum_by-cons route_length e es in
    let c = count_within p e.route.course in
    let d = count_no_longer p es in
    omega (arith, a, b, c, d)

-- ---- the combinations

-- one has what those of its values have together
own_total : (part : Part) (r : Combination) (rows : List Combination) → each_two is_ahead rows ≡ true → In r rows → total_of part r.values rows ≡ part_of part r
own_total part r [] order m = absurd m
own_total part r (x ∷ xs) order m = by (λ k. own_total part r xs (and_parts (list_all (is_ahead x) xs) (each_two is_ahead xs) order).1 k) m
  where
    here : Combination → ℕ
    here c = cond (has_values r.values c) (part_of part c) 0

    split : total_of part r.values (x ∷ xs) ≡ here x + total_of part r.values xs
    split = sum_by-cons here x xs

    behind : list_all (is_ahead x) xs ≡ true
    behind = (and_parts (list_all (is_ahead x) xs) (each_two is_ahead xs) order).0

    first : r ≡ x → here x ≡ part_of part r
    first e = ap (λ (c : Combination). here c) (sym e) ∙ ap (λ b. cond b (part_of part r) 0) (values_itself r.values)

    others : r ≡ x → total_of part r.values xs ≡ 0
    others e = total_none part r.values xs (all_of _ xs (λ c k. not_from_false (has_values r.values c) (later_differs r c (ap (λ (d : Combination). is_ahead d c) e ∙ all_at (is_ahead x) c xs behind k))))

    later : is_ahead x r ≡ true → here x ≡ 0
    later h = ap (λ b. cond b (part_of part x) 0) (false_from_ne_true (has_values r.values x) (λ k. both_ways (is_ahead x r) (alike_level x r k) h))

    by : (In r xs → total_of part r.values xs ≡ part_of part r) → (r ≡ x) ⊎ In r xs → total_of part r.values (x ∷ xs) ≡ part_of part r
    by rest (inl e) = let a = split in let b = first e in let c = others e in omega (arith, a, b, c)
    by rest (inr k) =
        let a = split in
        let b = later (all_at (is_ahead x) r xs behind k) in
        let c = rest k in
        omega (arith, a, b, c)

module _ (s : State) (classes : List Name) (routes : List RouteRow) where
  -- values that some millimetre has are as many as the classes
  pub as_many : (v : Values) → list_any (is_seen s classes v) routes ≡ true → length v ≡ length classes
  as_many v h =
      let route = any_found (is_seen s classes v) routes h in
      let ground = any_found (has_either s classes v) route.0.route.course route.2 in
      by ground.0 (or_cases (has_on s classes v side.Left ground.0) (has_on s classes v side.Right ground.0) ground.2)
    where
      on : (g : Ground) (side : LinkSide) → has_on s classes v side g ≡ true → length v ≡ length classes
      on g side k =
          let value = value_of (asset_list s) (λ asset. s.holds asset (beside g side)) in
          ap length (sym (values_equal (map value classes) v k)) ∙ length-map classes value

      by : (g : Ground) → (has_on s classes v side.Left g ≡ true) ⊎ (has_on s classes v side.Right g ≡ true) → length v ≡ length classes
      by g (inl k) = on g side.Left k
      by g (inr k) = on g side.Right k

  module _ (rows : List Combination) (exact : (v : Values) → list_any (has_values v) rows ≡ list_any (is_seen s classes v) routes) where
    row_long : (r : Combination) → In r rows → length r.values ≡ length classes
    row_long r m = as_many r.values (sym (exact r.values) ∙ any_of (has_values r.values) r rows m (values_itself r.values))

    same_order : (x y : Combination) → In x rows → In y rows → combination_before x y ≡ is_ahead x y
    same_order x y m n = before_as_cmp x.values y.values (row_long x m ∙ sym (row_long y n))

    pub in_order : each_two is_ahead rows ≡ true → each_two combination_before rows ≡ true
    in_order h = each_two_from is_ahead combination_before rows (λ x y m n k. same_order x y m n ∙ k) h

    pub by_cmp : each_two combination_before rows ≡ true → each_two is_ahead rows ≡ true
    by_cmp h = each_two_from combination_before is_ahead rows (λ x y m n k. sym (same_order x y m n) ∙ k) h

  module _ (entries sorted rows : List Combination) (count : CountRoutes s classes entries [] routes) (same : IsPermutation entries sorted) where
    counted : (part : Part) (v : Values) → total_of part v sorted ≡ count_on (is_counted s classes part v) routes
    counted part v =
        let all = count.totals part v in
        let sums = sum_by-IsPermutation (λ c. cond (has_values v c) (part_of part c) 0) entries sorted same in
        omega (arith, all, sums)

    pub fit : sum_by route_length routes < 2 ^ 64 → Fit sorted
    fit h part v =
        let is = counted part v in
        let most = count_no_longer (is_counted s classes part v) routes in
        omega (arith, h, is, most)

    module _ (table : IsTable sorted rows) where
      row_exact : (v : Values) → list_any (has_values v) rows ≡ list_any (is_seen s classes v) routes
      row_exact v = table.exact v ∙ sym (list_any-IsPermutation (has_values v) entries sorted same) ∙ sym (nothing (list_any (has_values v) entries)) ∙ count.exact v

      row_part : (r : Combination) → In r rows → (part : Part) → part_of part r ≡ count_on (is_counted s classes part r.values) routes
      row_part r m part = sym (own_total part r rows table.order m) ∙ table.totals part r.values ∙ counted part r.values

      lengths_each : (rs : List Combination) → ((r : Combination) → In r rs → In r rows) → AllByRecursion (HasLengths s classes routes) rs
      lengths_each [] among = tt
      lengths_each (r ∷ rs) among =
          let m = among r (inl refl) in
          (record { left_is = row_part r m Left; right_is = row_part r m Right; length_is = row_part r m Either }, lengths_each rs (λ q k. among q (inr k)))

      pub combined : AreCombinationsOn s classes routes rows
      combined = record { order = in_order rows row_exact table.order; exact = row_exact; counts = lengths_each rows (λ r m. m) }
