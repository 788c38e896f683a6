-- Both sides of a course, walked together: what a joint stretch adds, and what is left to count behind it.
use Rattle.std.proofs.Common.{◌≡◌, ℕ, zero, suc, ◌+◌, ◌-◌, ◌<◌, ◌≤◌, min, Bool, true, false, cond, ◌⊎◌, inl, inr, Option, Some, None, List, [], ◌∷◌, ◌++◌, length, drop, map, sum_by, refl, sym, ap, ap₂, subst, ◌∙◌, arith}
use Rattle.std.specs.Prelude.{◌||◌, nat_le, slice_get}
use Rattle.std.specs.List.{count_by, list_any}
use Rattle.std.specs.Option.{option_map}
use Rattle.std.proofs.lemmas.Bool.{both_ways, cases_Bool, cases_lt, le-leb, lt-leb}
use Rattle.std.proofs.lemmas.List.{length-map}
use Rattle.std.proofs.lemmas.List.Folds.{list_any-append}
use Rattle.std.proofs.lemmas.Simd.{map-map}
use Rattle.std.proofs.lemmas.List.Sums.{sum_by-append, sum_by-cons}
use Rattle.std.proofs.lemmas.Option.{same_Some, slice_get-map}
use Rattle.lrs_measure.specs.MaximalRuns.{AreRuns, Decides, HaveValues, IsChain}
use Rattle.lrs_measure.specs.Runs.{Run, runs_of}
use Rattle.lrs_measure.specs.Texts.{Name}
use Rattle.lrs_measure.proofs.Counts.{count_cons}
use Rattle.lrs_measure.proofs.Runs.{chain_le, runs_are_one}
use Rattle.lrs_element.specs.declared.link.Ground.{Ground}
use Rattle.lrs_events.specs.Places.{beside}
use Rattle.lrs_events.specs.declared.side.LinkSide.{LinkSide}
use Rattle.lrs_events.specs.declared.side.LinkSide.TheVariants as side
use Rattle.lrs_machine.specs.declared.segment.Segment.{Segment}
use Rattle.lrs_machine.specs.Readings.{asset_list, segments_on}
use Rattle.lrs_machine.specs.Segments.{Values, same_values, values_of}
use Rattle.lrs_machine.specs.State.{State}
use Rattle.lrs_report.specs.Sweep.{run_of}
use Rattle.lrs_report_answers.specs.declared.combinations.Combination.{Combination}
use Rattle.lrs_report_answers.specs.declared.combinations.table.Part.{Part}
use Rattle.lrs_report_answers.specs.declared.combinations.table.Part.TheVariants.{Left, Right, Either}
use Rattle.lrs_report_answers.specs.Combinations.{has_either}
use Rattle.lrs_report_answers.specs.CombinationParts.{Count, Joins, LieOn, Walks, entries_over, entry_of, has_ended, has_values, is_counted, part_of, total_of, unless_ended, values_beside}
use Rattle.lrs_report_answers.proofs.Combined.Order.{values_decide, values_equal, values_itself}

-- ---- what a joint stretch adds

-- a stretch with these values on its two sides is counted for others
abbrev pub is_on : Part → Values → Values → Values → Bool
is_on Left a b v = same_values a v
is_on Right a b v = same_values b v
is_on Either a b v = same_values a v || same_values b v

module _ (part : Part) (v : Values) where
  abbrev here : Combination → ℕ
  here c = cond (has_values v c) (part_of part c) 0

  one_total : (c : Combination) → total_of part v (c ∷ []) ≡ here c
  one_total c = sum_by-cons here c [] ∙ omega arith

  two_total : (c d : Combination) → total_of part v (c ∷ d ∷ []) ≡ here c + here d
  two_total c d = sum_by-cons here c (d ∷ []) ∙ ap (λ n. here c + n) (one_total d)

or_same : (b : Bool) → (b || b) ≡ b
or_same true = refl
or_same false = refl

left_alone : (x y : Bool) (n : ℕ) → cond x n 0 + cond y 0 0 ≡ cond x n 0
left_alone true true n = omega arith
left_alone true false n = omega arith
left_alone false true n = refl
left_alone false false n = refl

right_alone : (x y : Bool) (n : ℕ) → cond x 0 0 + cond y n 0 ≡ cond y n 0
right_alone true true n = omega arith
right_alone true false n = refl
right_alone false true n = omega arith
right_alone false false n = refl

one_of_two : (x y : Bool) (n : ℕ) → (x ≡ true → y ≡ true → ⊥) → cond x n 0 + cond y n 0 ≡ cond (x || y) n 0
one_of_two true true n h = absurd (h refl refl)
one_of_two true false n h = omega arith
one_of_two false true n h = omega arith
one_of_two false false n h = refl

module _ (a b : Values) (n : ℕ) where
  both_total : (part : Part) (v : Values) → a ≡ b → total_of part v (entry_of a n n n ∷ []) ≡ cond (is_on part a b v) n 0
  both_total Left v e = one_total Left v (entry_of a n n n)
  both_total Right v e = one_total Right v (entry_of a n n n) ∙ ap (λ w. cond (same_values w v) n 0) e
  both_total Either v e =
      one_total Either v (entry_of a n n n) ∙ ap (λ t. cond t n 0) (sym (or_same (same_values a v))) ∙ ap (λ w. cond (same_values a v || same_values w v) n 0) e

  not_both : same_values a b ≡ false → (v : Values) → same_values a v ≡ true → same_values b v ≡ true → ⊥
  not_both h v k m = both_ways (same_values a b) h ((values_decide a b).1 (values_equal a v k ∙ sym (values_equal b v m)))

  each_total : (part : Part) (v : Values) → same_values a b ≡ false → total_of part v (entry_of a n 0 n ∷ entry_of b 0 n n ∷ []) ≡ cond (is_on part a b v) n 0
  each_total Left v h = two_total Left v (entry_of a n 0 n) (entry_of b 0 n n) ∙ left_alone (same_values a v) (same_values b v) n
  each_total Right v h = two_total Right v (entry_of a n 0 n) (entry_of b 0 n n) ∙ right_alone (same_values a v) (same_values b v) n
  each_total Either v h = two_total Either v (entry_of a n 0 n) (entry_of b 0 n n) ∙ one_of_two (same_values a v) (same_values b v) n (not_both h v)

  abbrev over : Bool → List Combination
  over t = cond t (entry_of a n n n ∷ []) (entry_of a n 0 n ∷ entry_of b 0 n n ∷ [])

  stretch_total : (part : Part) (v : Values) → total_of part v (entries_over a b n) ≡ cond (is_on part a b v) n 0
  stretch_total part v = by (cases_Bool (same_values a b))
    where
      by : (same_values a b ≡ true) ⊎ (same_values a b ≡ false) → total_of part v (entries_over a b n) ≡ cond (is_on part a b v) n 0
      by (inl e) = ap (λ t. total_of part v (over t)) e ∙ both_total part v (values_equal a b e)
      by (inr e) = ap (λ t. total_of part v (over t)) e ∙ each_total part v e

  stretch_any : (v : Values) → list_any (has_values v) (entries_over a b n) ≡ (same_values a v || same_values b v)
  stretch_any v = by (cases_Bool (same_values a b))
    where
      nothing : (x : Bool) → (x || false) ≡ x
      nothing true = refl
      nothing false = refl

      by : (same_values a b ≡ true) ⊎ (same_values a b ≡ false) → list_any (has_values v) (entries_over a b n) ≡ (same_values a v || same_values b v)
      by (inl e) =
          ap (λ t. list_any (has_values v) (over t)) e ∙ nothing (same_values a v) ∙ sym (or_same (same_values a v))
          ∙ ap (λ w. same_values a v || same_values w v) (values_equal a b e)
      by (inr e) = ap (λ t. list_any (has_values v) (over t)) e ∙ ap (λ t. same_values a v || t) (nothing (same_values b v))

-- ---- what is left to count behind a stretch

module _ {X : Type 0} (p : X → Bool) (b : Bool) where
  abbrev AreSo : ℕ → ℕ → List X → Type 0
  AreSo at to xs = (k : ℕ) (x : X) → at ≤ k → k < to → slice_get xs k ≡ Some x → p x ≡ b

  later_so : (at to : ℕ) (x : X) (xs : List X) → AreSo (suc at) (suc to) (x ∷ xs) → AreSo at to xs
  later_so at to x xs h k y low high is = h (suc k) y (omega (arith, low)) (omega (arith, high)) is

  first_so : (to : ℕ) (x : X) (xs : List X) → AreSo zero (suc to) (x ∷ xs) → AreSo zero to xs
  first_so to x xs h k y low high is = h (suc k) y (omega arith) (omega (arith, high)) is

  weigh : (n rest : ℕ) → cond b 1 0 + (cond b n 0 + rest) ≡ cond b (suc n) 0 + rest
  weigh n rest = by b
    where
      by : (t : Bool) → cond t 1 0 + (cond t n 0 + rest) ≡ cond t (suc n) 0 + rest
      by true = omega arith
      by false = omega arith

  weightless : (rest : ℕ) → rest ≡ cond b 0 0 + rest
  weightless rest = by b
    where
      by : (t : Bool) → rest ≡ cond t 0 0 + rest
      by true = omega arith
      by false = omega arith

  -- a front of so many
  count_front : (to : ℕ) (xs : List X) → to ≤ length xs → AreSo 0 to xs → count_by p xs ≡ cond b to 0 + count_by p (drop to xs)
  count_front zero xs within h = weightless (count_by p xs)
  count_front (suc to) [] within h = absurd (omega (arith, within))
  count_front (suc to) (x ∷ xs) within h =
      count_cons p x xs ∙ ap₂ (λ t n. cond t 1 0 + n) (h 0 x (omega arith) (omega arith) refl) (count_front to xs (omega (arith, within)) (first_so to x xs h))
      ∙ weigh to (count_by p (drop to xs))

  pub count_between : (at to : ℕ) (xs : List X) → at ≤ to → to ≤ length xs → AreSo at to xs → count_by p (drop at xs) ≡ cond b (to - at) 0 + count_by p (drop to xs)
  count_between zero to xs order within h = let e : to ≡ to - 0 = omega arith in count_front to xs within h ∙ ap (λ n. cond b n 0 + count_by p (drop to xs)) e
  count_between (suc at) zero xs order within h = absurd (omega (arith, order))
  count_between (suc at) (suc to) [] order within h = absurd (omega (arith, within))
  count_between (suc at) (suc to) (x ∷ xs) order within h =
      let e : to - at ≡ suc to - suc at = omega arith in
      count_between at to xs (omega (arith, order)) (omega (arith, within)) (later_so at to x xs h) ∙ ap (λ n. cond b n 0 + count_by p (drop to xs)) e

  twice : (t : Bool) → (b || (b || t)) ≡ (b || t)
  twice t = by b
    where
      by : (c : Bool) → (c || (c || t)) ≡ (c || t)
      by true = refl
      by false = refl

  any_front : (to : ℕ) (xs : List X) → suc to ≤ length xs → AreSo 0 (suc to) xs → list_any p xs ≡ (b || list_any p (drop (suc to) xs))
  any_front to [] within h = absurd (omega (arith, within))
  any_front zero (x ∷ xs) within h = ap (λ t. t || list_any p xs) (h 0 x (omega arith) (omega arith) refl)
  any_front (suc to) (x ∷ xs) within h =
      ap₂ (λ t u. t || u) (h 0 x (omega arith) (omega arith) refl) (any_front to xs (omega (arith, within)) (first_so (suc to) x xs h)) ∙ twice (list_any p (drop (suc to) xs))

  pub any_between : (at to : ℕ) (xs : List X) → at < to → to ≤ length xs → AreSo at to xs → list_any p (drop at xs) ≡ (b || list_any p (drop to xs))
  any_between at zero xs order within h = absurd (omega (arith, order))
  any_between zero (suc to) xs order within h = any_front to xs within h
  any_between (suc at) (suc to) [] order within h = absurd (omega (arith, within))
  any_between (suc at) (suc to) (x ∷ xs) order within h = any_between at to xs (omega (arith, order)) (omega (arith, within)) (later_so at to x xs h)

-- ---- the walk

or_turn : (x y z : Bool) → ((x || y) || z) ≡ (x || (y || z))
or_turn true y z = refl
or_turn false y z = refl

module _ (s : State) (classes : List Name) (course : List Ground) where
  abbrev on : LinkSide → Ground → Values
  on side g = values_beside s classes side g

  counted_is : (part : Part) (v : Values) (g : Ground) (a b : Values) → on side.Left g ≡ a → on side.Right g ≡ b → is_counted s classes part v g ≡ is_on part a b v
  counted_is Left v g a b l r = ap (λ w. same_values w v) l
  counted_is Right v g a b l r = ap (λ w. same_values w v) r
  counted_is Either v g a b l r = ap₂ (λ w u. same_values w v || same_values u v) l r

  -- the values on the sides of a joint stretch
  record AreBeside (at to : ℕ) (a b : Values) : Type 0 where
    left : (k : ℕ) (g : Ground) → at ≤ k → k < to → slice_get course k ≡ Some g → on side.Left g ≡ a
    right : (k : ℕ) (g : Ground) → at ≤ k → k < to → slice_get course k ≡ Some g → on side.Right g ≡ b

  counted_along : (part : Part) (v : Values) (at to : ℕ) (a b : Values) → AreBeside at to a b → (k : ℕ) (g : Ground) → at ≤ k → k < to → slice_get course k ≡ Some g → is_counted s classes part v g ≡ is_on part a b v
  counted_along part v at to a b sides k g low high is = counted_is part v g a b (sides.left k g low high is) (sides.right k g low high is)

  count_next : (before entries : List Combination) (at to : ℕ) (a b : Values) → at < to → to ≤ length course → AreBeside at to a b
      → Count s classes before course entries (drop at course) → Count s classes before course (entries ++ entries_over a b (to - at)) (drop to course)
  count_next before entries at to a b order within sides count = record {
    totals = λ part v.
        let so = counted_along part v at to a b sides in
        let more = sum_by-append (λ c. cond (has_values v c) (part_of part c) 0) entries (entries_over a b (to - at)) in
        let one = stretch_total a b (to - at) part v in
        let passed = count_between (is_counted s classes part v) (is_on part a b v) at to course (omega (arith, order)) within so in
        let all = count.totals part v in
        omega (arith, more, one, passed, all);
    exact = λ v.
        let so = counted_along Either v at to a b sides in
        let rest = list_any (has_either s classes v) (drop to course) in
        ap (λ t. t || rest) (list_any-append (has_values v) entries (entries_over a b (to - at)) ∙ ap (λ t. list_any (has_values v) entries || t) (stretch_any a b (to - at) v))
        ∙ or_turn (list_any (has_values v) entries) (same_values a v || same_values b v) rest
        ∙ ap (λ t. list_any (has_values v) entries || t) (sym (any_between (has_either s classes v) (same_values a v || same_values b v) at to course order within so))
        ∙ count.exact v;
  }

  -- ---- segments that go on

  module _ (v : Ground → Values) where
    lie_next : (at to : ℕ) (x : Segment) (xs : List Segment) → LieOn v course at (x ∷ xs) → at ≤ to → to ≤ x.to → LieOn v course to (unless_ended to (x ∷ xs))
    lie_next at to x xs h low high = by (cases_lt to x.to)
      where
        by : (to < x.to) ⊎ (x.to ≤ to) → LieOn v course to (cond (nat_le x.to to) xs (x ∷ xs))
        by (inl l) = subst (λ (t : Bool). LieOn v course to (cond t xs (x ∷ xs))) (sym (lt-leb x.to to l)) (l, h.1, λ k g begin end is. h.2 k g (omega (arith, begin, low)) end is, h.3)
        by (inr g) =
            let e : x.to ≡ to = omega (arith, g, high) in
            subst (λ (t : Bool). LieOn v course to (cond t xs (x ∷ xs))) (sym (le-leb x.to to g)) (subst (λ (n : ℕ). LieOn v course n xs) e h.3)

    lie_from : (at : ℕ) (ss : List Segment) → IsChain at (0 + length (map v course)) (map run_of ss) → HaveValues 0 (map v course) (map run_of ss) → LieOn v course at ss
    lie_from at [] c h = let e = length-map course v in omega (arith, c, e)
    lie_from at (x ∷ xs) c h =
        let begin = c.0 in
        let some = c.1 in
        let size = length-map course v in
        let end = chain_le x.to (0 + length (map v course)) (map run_of xs) c.2 in (
          omega (arith, begin, some),
          omega (arith, end, size),
          λ k g low high is. same_Some (v g) x.values (sym (slice_get-map v course k ∙ ap (λ o. option_map v o) is) ∙ h.0 k (omega (arith, begin, low)) (omega (arith, high))),
          lie_from x.to xs c.2 h.1,
        )

    values_tell : Decides Values same_values
    values_tell = record { itself = values_itself; equal = values_equal }

    lie_all : (ss : List Segment) → map run_of ss ≡ runs_of same_values (map v course) → LieOn v course 0 ss
    lie_all ss e =
        let runs = (runs_are_one Values same_values values_tell (map v course) (map run_of ss)).1 e in
        lie_from 0 ss runs.cover runs.values

  -- the segments of a side lie on the course
  pub side_lies : (side : LinkSide) (ss : List Segment) → map run_of ss ≡ segments_on s course classes side → LieOn (values_beside s classes side) course 0 ss
  side_lies side ss e =
      lie_all (values_beside s classes side) ss
      (e ∙ ap (runs_of same_values) (map-map (values_of (asset_list s) classes) (λ (g : Ground) (asset : ℕ). s.holds asset (beside g side)) course))

  pub walk_first : (before : List Combination) (lefts rights : List Segment) → map run_of lefts ≡ segments_on s course classes side.Left → map run_of rights ≡ segments_on s course classes side.Right
      → Walks s classes course before before 0 lefts rights
  walk_first before lefts rights l r = record { left = side_lies side.Left lefts l; right = side_lies side.Right rights r; count = record { totals = λ part v. refl; exact = λ v. refl } }

  -- where a segment begins, one of the other side is there
  pub left_ahead : (before entries : List Combination) (at : ℕ) (lefts rights : List Segment) (x : Segment) → Walks s classes course before entries at lefts rights → slice_get lefts 0 ≡ Some x → at ≤ x.to
  left_ahead before entries at [] rights x w is = absurd cc
  left_ahead before entries at (y ∷ ys) rights x w is = let l = w.left.0 in let e = ap (λ (t : Segment). t.to) (same_Some y x is) in omega (arith, l, e)

  pub right_ahead : (before entries : List Combination) (at : ℕ) (lefts rights : List Segment) (x : Segment) → Walks s classes course before entries at lefts rights → slice_get rights 0 ≡ Some x → at ≤ x.to
  right_ahead before entries at lefts [] x w is = absurd cc
  right_ahead before entries at lefts (y ∷ ys) x w is = let l = w.right.0 in let e = ap (λ (t : Segment). t.to) (same_Some y x is) in omega (arith, l, e)

  pub record Step (before entries : List Combination) (at to : ℕ) (lefts rights : List Segment) : Type 0 where
    pub ahead : at < to
    pub within : to ≤ length course
    pub walks : Walks s classes course before entries to (unless_ended to lefts) (unless_ended to rights)

  walk_both : (before entries after : List Combination) (at to : ℕ) (x y : Segment) (xs ys : List Segment) → Walks s classes course before entries at (x ∷ xs) (y ∷ ys)
      → Joins at x y entries after to → Step before after at to (x ∷ xs) (y ∷ ys)
  walk_both before entries after at to x y xs ys w j =
      let end = j.end in
      let one = w.left.0 in
      let two = w.right.0 in
      let last = w.left.1 in
      let ahead : at < to = omega (arith, end, one, two) in
      let within : to ≤ length course = omega (arith, end, last) in
      let sides : AreBeside at to x.values y.values = record {
        left = λ k g low high is. w.left.2 k g low (omega (arith, high, end)) is;
        right = λ k g low high is. w.right.2 k g low (omega (arith, high, end)) is;
      } in
      record {
        ahead = ahead;
        within = within;
        walks = record {
          left = lie_next (values_beside s classes side.Left) at to x xs w.left (omega (arith, ahead)) (omega (arith, end));
          right = lie_next (values_beside s classes side.Right) at to y ys w.right (omega (arith, ahead)) (omega (arith, end));
          count = subst (λ (es : List Combination). Count s classes before course es (drop to course)) (sym j.more) (count_next before entries at to x.values y.values ahead within sides w.count);
        };
      }

  pub walk_next : (before entries after : List Combination) (at to : ℕ) (lefts rights : List Segment) (x : Segment) → Walks s classes course before entries at lefts rights → slice_get lefts 0 ≡ Some x
      → ((y : Segment) → slice_get rights 0 ≡ Some y → Joins at x y entries after to) → Step before after at to lefts rights
  walk_next before entries after at to [] rights x w is join = absurd cc
  walk_next before entries after at to (z ∷ zs) [] x w is join = let l = w.left.0 in let m = w.left.1 in let e = w.right in absurd (omega (arith, l, m, e))
  walk_next before entries after at to (z ∷ zs) (y ∷ ys) x w is join =
      walk_both before entries after at to z y zs ys w (subst (λ (t : Segment). Joins at t y entries after to) (sym (same_Some z x is)) (join y refl))

  all_dropped : {X : Type 0} (xs : List X) → drop (length xs) xs ≡ []
  all_dropped [] = refl
  all_dropped (x ∷ xs) = all_dropped xs

  pub walk_end : (before entries : List Combination) (at : ℕ) (lefts rights : List Segment) → Walks s classes course before entries at lefts rights → slice_get lefts 0 ≡ None → Count s classes before course entries []
  walk_end before entries at [] rights w none = subst (Count s classes before course entries) (ap (λ n. drop n course) w.left ∙ all_dropped course) w.count
  walk_end before entries at (x ∷ xs) rights w none = absurd cc
