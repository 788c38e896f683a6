-- The first segment of columns, and those behind it.
use Rattle.std.proofs.Common.{◌≡◌, ℕ, zero, suc, ◌+◌, ◌-◌, ◌^◌, ◌<◌, ◌≤◌, Bool, true, false, Option, Some, None, List, [], ◌∷◌, length, map, refl, sym, ap, subst, ◌∙◌, arith}
use Rattle.std.specs.Prelude.{not, if◌then◌else◌}
use Rattle.std.specs.List.{range_with_len}
use Rattle.std.specs.Cmp.Lexicographic.{pointwise_decides, bytes_decides}
use Rattle.std.proofs.lemmas.Bool.{false≢true, not-true}
use Rattle.std.proofs.lemmas.List.{length-map}
use Rattle.std.proofs.lemmas.List.FromFn.{length-map-range_with_len}
use Rattle.lrs_measure.specs.Texts.{Name, same_name}
use Rattle.lrs_measure.specs.Runs.{Run, longer, runs_from, same_option}
use Rattle.lrs_measure.specs.MaximalRuns.{begin_other}
use Rattle.lrs_machine.specs.Segments.{Values, same_values}
use Rattle.lrs_machine.specs.declared.segment.Segment.{Segment}
use Rattle.lrs_report.specs.declared.columns.ValueStretch.{ValueStretch}
use Rattle.lrs_report.specs.Columns.{first_value, least_end, value_at, values_at}
use Rattle.lrs_report.specs.Sweep.{run_of, segment_of, segments_between, segments_from, HasBegun, IsPassed}
use Rattle.lrs_report.proofs.Passing.{values_along, least_ahead}

-- ---- equal values

option_equal : (a b : Option Name) → same_option same_name a b ≡ true → a ≡ b
option_equal None None h = refl
option_equal None (Some y) h = absurd (false≢true h)
option_equal (Some x) None h = absurd (false≢true h)
option_equal (Some x) (Some y) h = ap (λ n. Some n) ((bytes_decides x y).0 h)

option_itself : (a : Option Name) → same_option same_name a a ≡ true
option_itself None = refl
option_itself (Some x) = (bytes_decides x x).1 refl

values_decide : (xs ys : Values) → (same_values xs ys ≡ true → xs ≡ ys) × (xs ≡ ys → same_values xs ys ≡ true)
values_decide = pointwise_decides (λ a b. (option_equal a b, λ e. subst (λ c. same_option same_name a c ≡ true) e (option_itself a)))

pub values_equal : (xs ys : Values) → same_values xs ys ≡ true → xs ≡ ys
values_equal xs ys = (values_decide xs ys).0

values_itself : (xs : Values) → same_values xs xs ≡ true
values_itself xs = (values_decide xs xs).1 refl

-- ---- the first run, and those behind it

module _ {A : Type 0} (same : A → A → Bool) where
  alone : (j : ℕ) (x : A) (rs : List (Run A)) → begin_other same x rs ≡ true → longer same j x rs ≡ record { from = j; to = j + 1; value = x } ∷ rs
  alone j x [] h = refl
  alone j x (r ∷ rs) h = ap (λ b. if b then record { from = j; to = r.to; value = x } ∷ rs else record { from = j; to = j + 1; value = x } ∷ r ∷ rs) (not-true (same x r.value) h)

  -- a function has one value up to a place, and another one there
  one_value : ((x : A) → same x x ≡ true) → (f : ℕ → A) (x : A) (n m j to : ℕ) → j + suc n ≡ to → ((k : ℕ) → j ≤ k → k < to → f k ≡ x) → begin_other same x (runs_from same to (map f (range_with_len to m))) ≡ true
      → runs_from same j (map f (range_with_len j (suc n + m))) ≡ record { from = j; to = to; value = x } ∷ runs_from same to (map f (range_with_len to m))
  one_value itself f x zero m j to e h b =
      let P : ℕ → Type 0 = λ k. runs_from same j (map f (range_with_len j k)) ≡ record { from = j; to = to; value = x } ∷ runs_from same to (map f (range_with_len to m)) in
      let all : suc m ≡ suc zero + m = omega arith in
      let first : f j ≡ x = h j (omega arith) (omega (arith, e)) in
      let next : j + 1 ≡ to = omega (arith, e) in
      subst P all
      ((λ i. longer same j (first i) (runs_from same (next i) (map f (range_with_len (next i) m))))
      ∙ alone j x (runs_from same to (map f (range_with_len to m))) b
      ∙ (λ i. record { from = j; to = next i; value = x } ∷ runs_from same to (map f (range_with_len to m))))
  one_value itself f x (suc n) m j to e h b =
      let behind = runs_from same to (map f (range_with_len to m)) in
      let P : ℕ → Type 0 = λ k. runs_from same j (map f (range_with_len j k)) ≡ record { from = j; to = to; value = x } ∷ behind in
      let all : suc (suc n + m) ≡ suc (suc n) + m = omega arith in
      let first : f j ≡ x = h j (omega arith) (omega (arith, e)) in
      let rest = one_value itself f x n m (j + 1) to (omega (arith, e)) (λ k low high. h k (omega (arith, low)) high) b in
      subst P all
      ((λ i. longer same j (first i) (rest i))
      ∙ ap (λ c. if c then record { from = j; to = to; value = x } ∷ behind else record { from = j; to = j + 1; value = x } ∷ record { from = j + 1; to = to; value = x } ∷ behind) (itself x))

  begin_longer : (x y : A) (j : ℕ) (rs : List (Run A)) → begin_other same x (longer same j y rs) ≡ not (same x y)
  begin_longer x y j [] = refl
  begin_longer x y j (r ∷ rs) = by (same y r.value)
    where
      by : (c : Bool) → begin_other same x (if c then record { from = j; to = r.to; value = y } ∷ rs else record { from = j; to = j + 1; value = y } ∷ r ∷ rs) ≡ not (same x y)
      by true = refl
      by false = refl

same_along : {A : Type 0} (f g : ℕ → A) (n j : ℕ) → ((k : ℕ) → j ≤ k → f k ≡ g k) → map f (range_with_len j n) ≡ map g (range_with_len j n)
same_along f g zero j h = refl
same_along f g (suc n) j h = let first = h j (omega arith) in let rest = same_along f g n (j + 1) (λ k low. h k (omega (arith, low))) in λ i. first i ∷ rest i

-- ---- segments

few_longer : {A : Type 0} (same : A → A → Bool) (j : ℕ) (x : A) (rs : List (Run A)) → length (longer same j x rs) ≤ length rs + 1
few_longer same j x [] = omega arith
few_longer same j x (r ∷ rs) = by (same x r.value)
  where
    by : (b : Bool) → length (if b then record { from = j; to = r.to; value = x } ∷ rs else record { from = j; to = j + 1; value = x } ∷ r ∷ rs) ≤ length (r ∷ rs) + 1
    by true = omega arith
    by false = omega arith

few_runs : {A : Type 0} (same : A → A → Bool) (j : ℕ) (xs : List A) → length (runs_from same j xs) ≤ length xs
few_runs same j [] = omega arith
few_runs same j (x ∷ xs) = let rest = few_runs same (j + 1) xs in let one = few_longer same j x (runs_from same (j + 1) xs) in omega (arith, rest, one)

-- there are no more segments than millimetres
pub few_segments : (first : Option Segment) (columns : List (List ValueStretch)) (len : ℕ) → HasBegun first columns len → length (segments_from first columns len) < 2 ^ 64
few_segments None columns len h = omega arith
few_segments (Some s) columns len h =
    let values : List Values = map (values_at columns) (range_with_len s.to (len - s.to)) in
    let runs = runs_from same_values s.to values in
    let all = length-map runs segment_of in
    let few = few_runs same_values s.to values in
    let size = length-map-range_with_len (values_at columns) s.to (len - s.to) in
    let a = h.ahead in
    let w = h.within in
    let f = h.fits in
    omega (arith, all, few, size, a, w, f)

pub runs_again : (rs : List (Run Values)) → map run_of (map segment_of rs) ≡ rs
runs_again [] = refl
runs_again (r ∷ rs) = ap (λ qs. r ∷ qs) (runs_again rs)

pub no_segment : (columns : List (List ValueStretch)) (from to : ℕ) → to ≤ from → segments_between columns from to ≡ []
no_segment columns from to h = let e : to - from ≡ 0 = omega (arith, h) in ap (λ n. map segment_of (runs_from same_values from (map (values_at columns) (range_with_len from n)))) e

module _ (from len to : ℕ) (v : Values) (old new : List (List ValueStretch)) (passed : IsPassed from len v old to new) where
  -- behind the columns' first values they have others, or the route ends
  other_behind : (n : ℕ) → len - to ≡ n → (to < len → same_values v (map first_value new) ≡ false) → begin_other same_values v (runs_from same_values to (map (values_at old) (range_with_len to n))) ≡ true
  other_behind zero e other = refl
  other_behind (suc n) e other =
      let k : to < len = omega (arith, e) in
      let there : values_at old to ≡ map first_value new = sym (passed.rest to (omega arith)) ∙ values_along len (least_end len new) to new (least_ahead to len new passed.columns k) (omega arith) in
      begin_longer same_values v (values_at old to) to (runs_from same_values (to + 1) (map (values_at old) (range_with_len (to + 1) n)))
      ∙ ap not (ap (same_values v) there ∙ other k)

  -- there are as many columns as before
  pub as_many : length new ≡ length old
  as_many =
      let at : List ValueStretch → Option Name = λ c. value_at c to in
      sym (length-map new at) ∙ ap length (passed.rest to (omega arith)) ∙ length-map old at

  pub next_segment : (to < len → same_values v (map first_value new) ≡ false) → segments_between old from len ≡ record { from = from; to = to; values = v } ∷ segments_between new to len
  next_segment other =
      let a = passed.ahead in
      let w = passed.within in
      let n = to - from - 1 in
      let m = len - to in
      let e : from + suc n ≡ to = omega (arith, a) in
      let all : len - from ≡ suc n + m = omega (arith, a, w) in
      ap (λ k. map segment_of (runs_from same_values from (map (values_at old) (range_with_len from k)))) all
      ∙ ap (map segment_of) (one_value same_values values_itself (values_at old) v n m from to e passed.along (other_behind m refl other))
      ∙ ap (λ xs. record { from = from; to = to; values = v } ∷ map segment_of (runs_from same_values to xs)) (same_along (values_at old) (values_at new) m to (λ k low. sym (passed.rest k low)))
