-- A list of values has one list of maximal runs: those that cover it, each with the value of its places, neighbours with
-- different ones.
use Rattle.std.proofs.Common.{◌≡◌, ℕ, zero, suc, ◌+◌, ◌-◌, ◌<◌, ◌≤◌, Bool, true, false, Some, None, List, [], ◌∷◌, length, map, drop, refl, sym, ap, subst, ◌∙◌, arith}
use Rattle.std.specs.Prelude.{not, if◌then◌else◌, slice_get}
use Rattle.std.specs.List.{range_with_len}
use Rattle.std.specs.Option.{unwrap_or}
use Rattle.std.proofs.lemmas.Bool.{not-true, and_parts, and_from}
use Rattle.std.proofs.lemmas.List.{length-drop}
use Rattle.std.proofs.lemmas.List.FromFn.{length-map-range_with_len}
use Rattle.lrs_measure.specs.Runs.{Run, longer, runs_from}
use Rattle.lrs_measure.specs.MaximalRuns.{IsChain, HaveValues, begin_other, neighbours_differ, AreRuns, Decides, RunsAreOne}

slice_get-drop : {A : Type 0} → (n : ℕ) (xs : List A) (k : ℕ) → slice_get (drop n xs) k ≡ slice_get xs (n + k)
slice_get-drop zero xs k = ap (slice_get xs) (omega arith)
slice_get-drop (suc n) [] k = refl
slice_get-drop (suc n) (x ∷ xs) k = let e : suc (n + k) ≡ suc n + k = omega arith in slice_get-drop n xs k ∙ ap (slice_get (x ∷ xs)) e

pub chain_le : {A : Type 0} → (from to : ℕ) (rs : List (Run A)) → IsChain from to rs → from ≤ to
chain_le from to [] c = omega (arith, c)
chain_le from to (r ∷ rs) c = omega (arith, c.0, c.1, chain_le r.to to rs c.2)

-- values behind the first n
values_behind : {A : Type 0} → (n j to : ℕ) (xs : List A) (rs : List (Run A)) → j + n ≡ to → HaveValues j xs rs → HaveValues to (drop n xs) rs
values_behind n j to xs [] e h = tt
values_behind n j to xs (r ∷ rs) e h = (λ k low high. slice_get-drop n xs k ∙ h.0 (n + k) (omega (arith, low, e)) (omega (arith, high, e)), values_behind n j to xs rs e h.1)

module _ {A : Type 0} (same : A → A → Bool) (itself : (x : A) → same x x ≡ true) where
  alone : (j : ℕ) (x : A) (rs : List (Run A)) → begin_other same x rs ≡ true → longer same j x rs ≡ record { from = j; to = j + 1; value = x } ∷ rs
  alone j x [] h = refl
  alone j x (r ∷ rs) h = ap (λ b. if b then record { from = j; to = r.to; value = x } ∷ rs else record { from = j; to = j + 1; value = x } ∷ r ∷ rs) (not-true (same x r.value) h)

  -- the first places have one value, and the rest begins with another
  stretch : (x : A) (n j to : ℕ) (xs : List A) → j + suc n ≡ to → ((k : ℕ) → k < suc n → slice_get xs k ≡ Some x) → begin_other same x (runs_from same to (drop (suc n) xs)) ≡ true
      → runs_from same j xs ≡ record { from = j; to = to; value = x } ∷ runs_from same to (drop (suc n) xs)
  stretch x n j to [] e h b = let none : None ≡ Some x = h 0 (omega arith) in absurd cc
  stretch x zero j to (y ∷ ys) e h b =
      let first : y ≡ x = ap (λ o. unwrap_or o x) (h 0 (omega arith)) in
      let next : j + 1 ≡ to = omega (arith, e) in
      (λ i. longer same j (first i) (runs_from same (next i) ys)) ∙ alone j x (runs_from same to ys) b ∙ (λ i. record { from = j; to = next i; value = x } ∷ runs_from same to ys)
  stretch x (suc n) j to (y ∷ ys) e h b =
      let first : y ≡ x = ap (λ o. unwrap_or o x) (h 0 (omega arith)) in
      let rest = stretch x n (j + 1) to ys (omega (arith, e)) (λ k l. h (suc k) (omega (arith, l))) b in
      (λ i. longer same j (first i) (rest i))
      ∙ ap (λ b. if b then record { from = j; to = to; value = x } ∷ runs_from same to (drop (suc n) ys) else record { from = j; to = j + 1; value = x } ∷ record { from = j + 1; to = to; value = x } ∷ runs_from same to (drop (suc n) ys)) (itself x)

  -- a list of values has one list of maximal runs
  pub runs_are : (rs : List (Run A)) (j : ℕ) (xs : List A) → AreRuns A same j xs rs → runs_from same j xs ≡ rs
  runs_are [] j [] h = refl
  runs_are [] j (x ∷ xs) h = let c = h.cover in absurd (omega (arith, c))
  runs_are (r ∷ rs) j xs h =
      let begin = h.cover.0 in
      let some = h.cover.1 in
      let end = chain_le r.to (j + length xs) rs h.cover.2 in
      let n = r.to - j - 1 in
      let e : j + suc n ≡ r.to = omega (arith, begin, some) in
      let left : j + length xs ≡ r.to + length (drop (suc n) xs) = omega (arith, e, end, length-drop (suc n) xs) in
      let differ = and_parts (begin_other same r.value rs) (neighbours_differ same rs) h.maximal in
      let rest = runs_are rs r.to (drop (suc n) xs) (record {
        cover = (let P : ℕ → Type 0 = λ m. IsChain r.to m rs in subst P left h.cover.2);
        values = values_behind (suc n) j r.to xs rs e h.values.1;
        maximal = differ.1;
      }) in
      stretch r.value n j r.to xs e (λ k l. h.values.0 k (omega (arith, begin)) (omega (arith, l, e))) (ap (begin_other same r.value) rest ∙ differ.0)
      ∙ (λ i. record { from = sym begin i; to = r.to; value = r.value } ∷ rest i)

-- each place of a run has its value, by a function of places
abbrev pub AreValued : {A : Type 0} → (ℕ → A) → List (Run A) → Type 0
AreValued f [] = Unit {0}
AreValued f (r ∷ rs) = ((k : ℕ) → r.from ≤ k → k < r.to → f k ≡ r.value) × AreValued f rs

slice_get-range : {A : Type 0} → (f : ℕ → A) (j n k : ℕ) → k < n → slice_get (map f (range_with_len j n)) k ≡ Some (f (j + k))
slice_get-range f j zero k h = absurd (omega (arith, h))
slice_get-range f j (suc n) zero h = ap (λ m. Some (f m)) (omega arith)
slice_get-range f j (suc n) (suc k) h = let e : (j + 1) + k ≡ j + suc k = omega arith in slice_get-range f (j + 1) n k (omega (arith, h)) ∙ ap (λ m. Some (f m)) e

values_listed : {A : Type 0} → (f : ℕ → A) (j n from : ℕ) (rs : List (Run A)) → IsChain from (j + n) rs → AreValued f rs → HaveValues j (map f (range_with_len j n)) rs
values_listed f j n from [] c h = tt
values_listed f j n from (r ∷ rs) c h =
    let end = chain_le r.to (j + n) rs c.2 in
    (λ k low high. slice_get-range f j n k (omega (arith, high, end)) ∙ ap (λ x. Some x) (h.0 (j + k) low high), values_listed f j n r.to rs c.2 h.1)

-- ... so have the values of a function on n places from j on
pub range_runs_are : {A : Type 0} → (same : A → A → Bool) → ((x : A) → same x x ≡ true) → (f : ℕ → A) (j n : ℕ) (rs : List (Run A))
    → IsChain j (j + n) rs → AreValued f rs → neighbours_differ same rs ≡ true → runs_from same j (map f (range_with_len j n)) ≡ rs
range_runs_are same itself f j n rs cover values maximal = runs_are same itself rs j (map f (range_with_len j n)) (record {
  cover = (let P : ℕ → Type 0 = λ m. IsChain j (j + m) rs in subst P (sym (length-map-range_with_len f j n)) cover);
  values = values_listed f j n j rs cover values;
  maximal = maximal;
})

-- ---- the runs of a list are maximal

-- what a run has behind the first place
values_shifted : {A : Type 0} → (x : A) (xs : List A) (j from to : ℕ) (rs : List (Run A)) → j + 1 ≤ from → IsChain from to rs → HaveValues (j + 1) xs rs → HaveValues j (x ∷ xs) rs
values_shifted x xs j from to [] low c h = tt
values_shifted x xs j from to (r ∷ rs) low c h =
    let begin = c.0 in
    let some = c.1 in
    (at begin, values_shifted x xs j r.to to rs (omega (arith, low, begin, some)) c.2 h.1)
  where
    at : r.from ≡ from → (k : ℕ) → r.from ≤ j + k → j + k < r.to → slice_get (x ∷ xs) k ≡ Some r.value
    at begin zero l m = absurd (omega (arith, low, begin, l))
    at begin (suc k) l m = h.0 k (omega (arith, l)) (omega (arith, m))

first_value : {A : Type 0} → (x : A) (xs : List A) (j k : ℕ) → j + k < j + 1 → slice_get (x ∷ xs) k ≡ Some x
first_value x xs j zero h = refl
first_value x xs j (suc k) h = absurd (omega (arith, h))

module _ {A : Type 0} (same : A → A → Bool) (decides : Decides A same) where
  longer_runs : (x : A) (xs : List A) (j : ℕ) (rs : List (Run A)) → AreRuns A same (j + 1) xs rs → AreRuns A same j (x ∷ xs) (longer same j x rs)
  longer_runs x xs j [] h = record {
    cover = (refl, omega arith, (let c = h.cover in omega (arith, c)));
    values = ((λ k low high. first_value x xs j k high), tt);
    maximal = refl;
  }
  longer_runs x xs j (r ∷ rs) h = by (same x r.value) refl
    where
      whole : (j + 1) + length xs ≡ j + length (x ∷ xs)
      whole = omega arith

      grown : x ≡ r.value → (k : ℕ) → j + k < r.to → slice_get (x ∷ xs) k ≡ Some x
      grown e zero m = refl
      grown e (suc k) m = let begin = h.cover.0 in h.values.0 k (omega (arith, begin)) (omega (arith, m)) ∙ ap (λ y. Some y) (sym e)

      by : (b : Bool) → same x r.value ≡ b → AreRuns A same j (x ∷ xs) (if b then record { from = j; to = r.to; value = x } ∷ rs else record { from = j; to = j + 1; value = x } ∷ r ∷ rs)
      by true e =
          let begin = h.cover.0 in
          let some = h.cover.1 in
          let one = decides.equal x r.value e in
          let parts = and_parts (begin_other same r.value rs) (neighbours_differ same rs) h.maximal in
          let P : ℕ → Type 0 = λ n. IsChain r.to n rs in
          record {
            cover = (refl, omega (arith, begin, some), subst P whole h.cover.2);
            values = ((λ k low high. grown one k high), values_shifted x xs j r.to ((j + 1) + length xs) rs (omega (arith, begin, some)) h.cover.2 h.values.1);
            maximal = and_from (begin_other same x rs) (neighbours_differ same rs) (ap (λ y. begin_other same y rs) one ∙ parts.0) parts.1;
          }
      by false e =
          let P : ℕ → Type 0 = λ n. IsChain (j + 1) n (r ∷ rs) in
          record {
            cover = (refl, omega arith, subst P whole h.cover);
            values = ((λ k low high. first_value x xs j k high), values_shifted x xs j (j + 1) ((j + 1) + length xs) (r ∷ rs) (omega arith) h.cover h.values);
            maximal = and_from (not (same x r.value)) (neighbours_differ same (r ∷ rs)) (ap not e) h.maximal;
          }

  runs_hold : (xs : List A) (j : ℕ) → AreRuns A same j xs (runs_from same j xs)
  runs_hold [] j = record { cover = omega arith; values = tt; maximal = refl }
  runs_hold (x ∷ xs) j = longer_runs x xs j (runs_from same (j + 1) xs) (runs_hold xs (j + 1))

pub runs_are_one : (A : Type 0) → RunsAreOne A
runs_are_one A same decides xs rs = (
  λ h. sym (runs_are same decides.itself rs 0 xs h),
  λ e. (let P : List (Run A) → Type 0 = λ us. AreRuns A same 0 xs us in subst P (sym e) (runs_hold same decides xs 0)),
)
