-- The rows of a sound image are the maximal stretches of what is held.
use Rattle.std.proofs.Common.{◌≡◌, ℕ, zero, suc, ◌+◌, ◌-◌, ◌<◌, ◌≤◌, Bool, true, Option, Some, None, ◌⊎◌, inl, inr, List, [], ◌∷◌, map, length, refl, sym, ap, subst, ◌∙◌, arith}
use Rattle.std.specs.Prelude.{◌≢◌, ◌&&◌, not, nat_eq, slice_get}
use Rattle.std.specs.List.{filter_map}
use Rattle.std.specs.Option.{option_map, option_and_then}
use Rattle.std.proofs.lemmas.Bool.{both_ways, not-true, and_parts, and_from, cases_lt, eqb-true, eq-eqb}
use Rattle.std.proofs.lemmas.Option.{slice_get-map}
use Rattle.lrs_measure.specs.Runs.{Run, runs_of, same_option}
use Rattle.lrs_measure.specs.MaximalRuns.{IsChain, HaveValues, begin_other, neighbours_differ, Decides}
use Rattle.lrs_measure.proofs.Runs.{runs_are_one}
use Rattle.lrs_element.specs.declared.link.Ground.{Ground}
use Rattle.lrs_events.specs.declared.side.Side.{Side}
use Rattle.lrs_events.specs.Canonical.{side_held, held_run}
use Rattle.lrs_events.specs.Spans.{same_side}
use Rattle.lrs_events.proofs.Row.Unique.{is_same}
use Rattle.lrs_events.proofs.Row.Rows.{sides_same}
use Rattle.lrs_machine.specs.Image.{state_of}
use Rattle.std.specs.Cmp.Lexicographic.{bytes_decides}
use Rattle.lrs_measure.specs.Texts.{same_name}
use Rattle.lrs_measure.specs.Lists.{In}
use Rattle.lrs_measure.proofs.Members.{any_found, any_of, In-map, map_found, In-filter}
use Rattle.lrs_promises.specs.DeskLaws.InventoryRows.{Row, rows_of_inventory, Courses, Holds, courses_in, rows_of_each, run_of_row, canonical, same_row, has_row, side_at, IsMaximal, RowsAreMaximal}
use Rattle.lrs_promises.proofs.DeskLaws.Runs.{rows_are_the_runs, among_its}

-- ---- the members of the maximal runs of a list

some_one : {A : Type 0} (x y : A) → Some x ≡ Some y → x ≡ y
some_one x y h = cc

module _ {A : Type 0} (same : A → A → Bool) (decides : Decides A same) (xs : List A) where
  pub record IsRun (u : Run A) : Type 0 where
    pub some : u.from < u.to
    pub held : (j : ℕ) → u.from ≤ j → j < u.to → slice_get xs j ≡ Some u.value
    pub before : (j : ℕ) → j + 1 ≡ u.from → slice_get xs j ≢ Some u.value
    pub behind : slice_get xs u.to ≢ Some u.value

  none_past : (ys : List A) (j : ℕ) → length ys ≤ j → slice_get ys j ≡ None
  none_past [] j h = refl
  none_past (y ∷ ys) zero h = absurd (omega (arith, h))
  none_past (y ∷ ys) (suc j) h = none_past ys j (omega (arith, h))

  within : (ys : List A) (j : ℕ) (x : A) → slice_get ys j ≡ Some x → j < length ys
  within [] j x h = absurd (cc h)
  within (y ∷ ys) zero x h = omega arith
  within (y ∷ ys) (suc j) x h = let k = within ys j x h in omega (arith, k)

  -- what stands before the first of the runs has another value
  abbrev Begins : ℕ → List (Run A) → Type 0
  Begins from rs = (j : ℕ) (v : A) → j + 1 ≡ from → slice_get xs j ≡ Some v → begin_other same v rs ≡ true

  record AreSome (from : ℕ) (rs : List (Run A)) : Type 0 where
    pub chain : IsChain from (length xs) rs
    pub values : HaveValues 0 xs rs
    pub differ : neighbours_differ same rs ≡ true
    pub begins : Begins from rs

  first_held : (from : ℕ) (r : Run A) (rs : List (Run A)) → AreSome from (r ∷ rs) → (j : ℕ) → r.from ≤ j → j < r.to → slice_get xs j ≡ Some r.value
  first_held from r rs h j low high = let z : 0 + j ≡ j = omega arith in h.values.0 j (omega (arith, low)) (omega (arith, high))

  tail : (from : ℕ) (r : Run A) (rs : List (Run A)) → AreSome from (r ∷ rs) → AreSome r.to rs
  tail from r rs h =
      let both = and_parts (begin_other same r.value rs) (neighbours_differ same rs) h.differ in
      record {
        chain = h.chain.2;
        values = h.values.1;
        differ = both.1;
        begins = λ j v e is. (let some = h.chain.1 in
            ap (λ x. begin_other same x rs) (some_one v r.value (sym is ∙ first_held from r rs h j (omega (arith, e, some)) (omega (arith, e)))) ∙ both.0);
      }

  other_value : (v w : A) → not (same v w) ≡ true → v ≡ w → ⊥
  other_value v w h e = both_ways (same v w) (not-true (same v w) h) (ap (same v) (sym e) ∙ decides.itself v)

  behind_it : (from : ℕ) (v : A) (rs : List (Run A)) → AreSome from rs → begin_other same v rs ≡ true → slice_get xs from ≢ Some v
  behind_it from v [] h other is = let c = h.chain in let none : Some v ≡ None = sym is ∙ none_past xs from (omega (arith, c)) in absurd (cc none)
  behind_it from v (q ∷ qs) h other is =
      let begin = h.chain.0 in
      let some = h.chain.1 in
      other_value v q.value other (some_one v q.value (sym is ∙ first_held from q qs h from (omega (arith, begin)) (omega (arith, begin, some))))

  run_at : (u : Run A) (from : ℕ) (rs : List (Run A)) → AreSome from rs → In u rs → IsRun u
  run_at u from [] h m = absurd m
  run_at u from (r ∷ rs) h (inr m) = run_at u r.to rs (tail from r rs h) m
  run_at u from (r ∷ rs) h (inl e) = subst IsRun (sym e) (record {
    some = h.chain.1;
    held = first_held from r rs h;
    before = λ j k is. other_value r.value r.value (h.begins j r.value (k ∙ h.chain.0) is) refl;
    behind = behind_it r.to r.value rs (tail from r rs h) (and_parts (begin_other same r.value rs) (neighbours_differ same rs) h.differ).0;
  })

  -- the run over a place
  over_place : (from : ℕ) (rs : List (Run A)) → AreSome from rs → (j : ℕ) → from ≤ j → j < length xs → (r : Run A) × In r rs × (r.from ≤ j) × (j < r.to)
  over_place from [] h j low high = let c = h.chain in absurd (omega (arith, c, low, high))
  over_place from (r ∷ rs) h j low high = by (cases_lt j r.to) (over_place r.to rs (tail from r rs h) j)
    where
      by : (j < r.to) ⊎ (r.to ≤ j) → (r.to ≤ j → j < length xs → (q : Run A) × In q rs × (q.from ≤ j) × (j < q.to)) → (q : Run A) × In q (r ∷ rs) × (q.from ≤ j) × (j < q.to)
      by (inl k) later = (let begin = h.chain.0 in (r, inl refl, omega (arith, begin, low), k))
      by (inr k) later = let q = later k high in (q.0, inr q.1, q.2, q.3)

  is_one : (u r : Run A) → IsRun u → IsRun r → r.from ≤ u.from → u.from < r.to → u ≡ r
  is_one u r h k low high = whole (from (cases_lt r.from u.from)) (to (cases_lt r.to u.to) (cases_lt u.to r.to))
    where
      value : u.value ≡ r.value
      value = let s = h.some in some_one u.value r.value (sym (h.held u.from (omega arith) s) ∙ k.held u.from low high)

      from : (r.from < u.from) ⊎ (u.from ≤ r.from) → u.from ≡ r.from
      from (inr l) = omega (arith, l, low)
      from (inl l) = absurd (h.before (u.from - 1) (omega (arith, l)) (k.held (u.from - 1) (omega (arith, l)) (omega (arith, l, high)) ∙ ap (λ x. Some x) (sym value)))

      to : (r.to < u.to) ⊎ (u.to ≤ r.to) → (u.to < r.to) ⊎ (r.to ≤ u.to) → u.to ≡ r.to
      to (inl l) b = absurd (k.behind (h.held r.to (omega (arith, high)) l ∙ ap (λ x. Some x) value))
      to (inr l) (inr m) = omega (arith, l, m)
      to (inr l) (inl m) = let s = h.some in absurd (h.behind (k.held u.to (omega (arith, low, s)) m ∙ ap (λ x. Some x) (sym value)))

      whole : u.from ≡ r.from → u.to ≡ r.to → u ≡ r
      whole a b = λ i. record { from = a i; to = b i; value = value i }

  all_some : AreSome 0 (runs_of same xs)
  all_some =
      let h = (runs_are_one A same decides xs (runs_of same xs)).1 refl in
      let P : ℕ → Type 0 = λ n. IsChain 0 n (runs_of same xs) in
      let z : 0 + length xs ≡ length xs = omega arith in
      record { chain = subst P z h.cover; values = h.values; differ = h.maximal; begins = λ j v e is. absurd (omega (arith, e)) }

  pub run_of_list : (u : Run A) → In u (runs_of same xs) → IsRun u
  run_of_list u m = run_at u 0 (runs_of same xs) all_some m

  pub list_has_run : (u : Run A) → IsRun u → In u (runs_of same xs)
  list_has_run u h =
      let s = h.some in
      let r = over_place 0 (runs_of same xs) all_some u.from (omega arith) (within xs u.from u.value (h.held u.from (omega arith) s)) in
      subst (λ (q : Run A). In q (runs_of same xs)) (sym (is_one u r.0 h (run_of_list r.0 r.1) r.2 r.3)) r.1

-- ---- the canonical rows

sides_decided : Decides (Option Side) (same_option same_side)
sides_decided = record { itself = itself; equal = equal }
  where
    itself : (o : Option Side) → same_option same_side o o ≡ true
    itself None = refl
    itself (Some s) = is_same s s refl

    equal : (o p : Option Side) → same_option same_side o p ≡ true → o ≡ p
    equal None None h = refl
    equal None (Some s) h = absurd (cc h)
    equal (Some s) None h = absurd (cc h)
    equal (Some s) (Some t) h = ap (λ x. Some x) (sides_same s t h)

abbrev whole : Run Side → Run (Option Side)
whole u = record { from = u.from; to = u.to; value = Some u.value }

held_in : (u : Run Side) (rs : List (Run (Option Side))) → In u (filter_map held_run rs) → In (whole u) rs
held_in u [] m = absurd m
held_in u (r ∷ rs) m = by r.value refl m (held_in u rs)
  where
    by : (o : Option Side) → r.value ≡ o
        → In u (filter_map held_run (record { from = r.from; to = r.to; value = o } ∷ rs)) → (In u (filter_map held_run rs) → In (whole u) rs) → In (whole u) (r ∷ rs)
    by None is m later = inr (later m)
    by (Some s) is (inr m) later = inr (later m)
    by (Some s) is (inl e) later = inl (ap whole e ∙ (λ i. record { from = r.from; to = r.to; value = sym is i }))

in_held : (u : Run Side) (rs : List (Run (Option Side))) → In (whole u) rs → In u (filter_map held_run rs)
in_held u [] m = absurd m
in_held u (r ∷ rs) (inl e) = subst (λ (q : Run (Option Side)). In u (filter_map held_run (q ∷ rs))) e (inl refl)
in_held u (r ∷ rs) (inr m) = by r.value (in_held u rs m)
  where
    by : (o : Option Side) → In u (filter_map held_run rs) → In u (filter_map held_run (record { from = r.from; to = r.to; value = o } ∷ rs))
    by None k = k
    by (Some s) k = inr k

module _ (courses : Courses) (holds : Holds) (r : Row) where
  abbrev sides : List (Option Side)
  sides = map (side_held (holds r.asset)) (courses r.route)

  abbrev at : ℕ → Option Side
  at j = side_at courses holds r.route r.asset j

  read : (j : ℕ) → slice_get sides j ≡ option_map (side_held (holds r.asset)) (slice_get (courses r.route) j)
  read j = slice_get-map (side_held (holds r.asset)) (courses r.route) j

  -- one side is read of both
  there : (j : ℕ) → slice_get sides j ≡ Some (Some r.side) → at j ≡ Some r.side
  there j h = by (slice_get (courses r.route) j) (sym (read j) ∙ h)
    where
      by : (o : Option Ground) → option_map (side_held (holds r.asset)) o ≡ Some (Some r.side) → option_and_then (side_held (holds r.asset)) o ≡ Some r.side
      by None h = absurd (cc h)
      by (Some g) h = some_one (side_held (holds r.asset) g) (Some r.side) h

  back : (j : ℕ) → at j ≡ Some r.side → slice_get sides j ≡ Some (Some r.side)
  back j h = read j ∙ by (slice_get (courses r.route) j) h
    where
      by : (o : Option Ground) → option_and_then (side_held (holds r.asset)) o ≡ Some r.side → option_map (side_held (holds r.asset)) o ≡ Some (Some r.side)
      by None h = absurd (cc h)
      by (Some g) h = ap (λ x. Some x) h

  abbrev run : Run (Option Side)
  run = whole (run_of_row r)

  to_maximal : IsRun (same_option same_side) sides_decided sides run → IsMaximal courses holds r
  to_maximal h = record {
    some = h.some;
    held = λ j low high. there j (h.held j low high);
    before = λ j e is. h.before j e (back j is);
    behind = λ is. h.behind (back r.to is);
  }

  from_maximal : IsMaximal courses holds r → IsRun (same_option same_side) sides_decided sides run
  from_maximal h = record {
    some = h.some;
    held = λ j low high. back j (h.held j low high);
    before = λ j e is. h.before j e (there j is);
    behind = λ is. h.behind (there r.to is);
  }

  pub is_canonical : In (run_of_row r) (canonical courses holds r.route r.asset) → IsMaximal courses holds r
  is_canonical m = to_maximal (run_of_list (same_option same_side) sides_decided sides run (held_in (run_of_row r) (runs_of (same_option same_side) sides) m))

  pub has_canonical : IsMaximal courses holds r → In (run_of_row r) (canonical courses holds r.route r.asset)
  has_canonical h = in_held (run_of_row r) (runs_of (same_option same_side) sides) (list_has_run (same_option same_side) sides_decided sides run (from_maximal h))

-- ---- rows by their runs

module _ (r : Row) (rows : List Row) where
  abbrev its : List Row
  its = rows_of_each r.route r.asset rows

  -- the row is among those of its asset on its route where its run is among theirs
  run_in : has_row its r ≡ true → In (run_of_row r) (map run_of_row its)
  run_in h =
      let x = any_found (same_row r) its h in
      let a = and_parts (same_name r.route x.0.route && nat_eq r.asset x.0.asset && nat_eq r.from x.0.from && nat_eq r.to x.0.to) (same_side r.side x.0.side) x.2 in
      let b = and_parts (same_name r.route x.0.route && nat_eq r.asset x.0.asset && nat_eq r.from x.0.from) (nat_eq r.to x.0.to) a.0 in
      let c = and_parts (same_name r.route x.0.route && nat_eq r.asset x.0.asset) (nat_eq r.from x.0.from) b.0 in
      let from = eqb-true r.from x.0.from c.1 in
      let to = eqb-true r.to x.0.to b.1 in
      let side = sides_same r.side x.0.side a.1 in
      let same : run_of_row r ≡ run_of_row x.0 = λ i. record { from = from i; to = to i; value = side i } in
      subst (λ (u : Run Side). In u (map run_of_row its)) (sym same) (In-map run_of_row x.0 its x.1)

  in_runs : In (run_of_row r) (map run_of_row its) → has_row its r ≡ true
  in_runs m =
      let x = map_found run_of_row (run_of_row r) its m in
      let k = In-filter (λ q. same_name q.route r.route && nat_eq q.asset r.asset) x.0 rows x.1 in
      let both = and_parts (same_name x.0.route r.route) (nat_eq x.0.asset r.asset) k.1 in
      let name = (bytes_decides r.route x.0.route).1 (sym ((bytes_decides x.0.route r.route).0 both.0)) in
      let asset = eq-eqb r.asset x.0.asset (sym (eqb-true x.0.asset r.asset both.1)) in
      let from = eq-eqb r.from x.0.from (ap (λ (u : Run Side). u.from) x.2) in
      let to = eq-eqb r.to x.0.to (ap (λ (u : Run Side). u.to) x.2) in
      let side = is_same r.side x.0.side (ap (λ (u : Run Side). u.value) x.2) in
      any_of (same_row r) x.0 its x.1
      (and_from (same_name r.route x.0.route && nat_eq r.asset x.0.asset && nat_eq r.from x.0.from && nat_eq r.to x.0.to) (same_side r.side x.0.side)
      (and_from (same_name r.route x.0.route && nat_eq r.asset x.0.asset && nat_eq r.from x.0.from) (nat_eq r.to x.0.to)
      (and_from (same_name r.route x.0.route && nat_eq r.asset x.0.asset) (nat_eq r.from x.0.from)
      (and_from (same_name r.route x.0.route) (nat_eq r.asset x.0.asset) name asset) from) to) side)

pub rows_are_maximal : RowsAreMaximal
rows_are_maximal i s r = (
  λ h. is_canonical (courses_in (state_of i)) (state_of i).holds r
      (subst (In (run_of_row r)) (rows_are_the_runs i s r.route r.asset) (run_in r (rows_of_inventory i) (sym (among_its r (rows_of_inventory i)) ∙ h))),
  λ h. among_its r (rows_of_inventory i)
      ∙ in_runs r (rows_of_inventory i) (subst (In (run_of_row r)) (sym (rows_are_the_runs i s r.route r.asset)) (has_canonical (courses_in (state_of i)) (state_of i).holds r h)),
)
