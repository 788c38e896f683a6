-- Walks over pieces: a range of a course, a course from its other end, and where each piece starts.
use Rattle.std.proofs.Common.{ℕ, zero, suc, ◌≡◌, ◌+◌, ◌-◌, ◌<◌, ◌≤◌, List, [], ◌∷◌, ◌++◌, length, get_or, take, drop, sym, ◌∙◌, ap, refl, subst, arith, min, ⊎_elim, slice_get, Some}
use Rattle.std.proofs.lemmas.List.{length-take, length-drop, length-append, append_assoc, append-nil, drop_more, take_min, drop_all, nil_from_length, take_more, take_all, length_push, get_or_append_left, get_or_push, take-take, take-append-drop, get_or_read}
use Rattle.std.proofs.lemmas.Bool.{cases_lt}
use Rattle.std.proofs.lemmas.Option.{slice_get-get_or}
use Rattle.std.proofs.lemmas.List.Concat.{flat_map-append, get_or-flat_map}
use Rattle.std.specs.List.Sorted.{IsNonDecreasingBy}
use Rattle.std.proofs.lemmas.List.Sorted.{IsNonDecreasingBy-from_default}
use Rattle.lrs_element.specs.declared.link.Piece.{Piece}
use Rattle.lrs_element.specs.declared.link.Ground.{Ground}
use Rattle.lrs_element.specs.Course.{expand, course_of, turned}
use Rattle.lrs_element.specs.Pieces.{piece_len, ground_of, start_of, AreStarts}
use Rattle.lrs_element.proofs.Counting.{course_of-push}
use Rattle.lrs_element.proofs.Expanding.{length-expand, get_or-expand, turned-append}

-- the pieces from the i-th one on
pub course_of-drop : (ps : List Piece) (i : ℕ) (d : Piece) → i < length ps → course_of (drop i ps) ≡ expand (get_or ps i d) ++ course_of (drop (i + 1) ps)
course_of-drop ps i d h = ap course_of (drop_more ps i d h)

drop-append : {X : Type 0} (n : ℕ) (xs ys : List X) → drop n (xs ++ ys) ≡ drop n xs ++ drop (n - length xs) ys
drop-append zero xs ys = let z : 0 - length xs ≡ 0 = omega arith in rw z
drop-append (suc n) [] ys = let z : suc n - 0 ≡ suc n = omega arith in rw z
drop-append (suc n) (x ∷ xs) ys = let z : suc n - suc (length xs) ≡ n - length xs = omega arith in rw z (drop-append n xs ys)

take-append : {X : Type 0} (n : ℕ) (xs ys : List X) → take n (xs ++ ys) ≡ take n xs ++ take (n - length xs) ys
take-append {X = X} zero xs ys = let z : 0 - length xs ≡ 0 = omega arith in rw z
take-append {X = X} (suc n) [] ys = let z : suc n - 0 ≡ suc n = omega arith in rw z
take-append {X = X} (suc n) (x ∷ xs) ys = let z : suc n - suc (length xs) ≡ n - length xs = omega arith in rw z (ap (λ (l : List X). x ∷ l) (take-append n xs ys))

-- the entries from f up to t
abbrev pub range : {X : Type 0} → ℕ → ℕ → List X → List X
range f t xs = take (t - f) (drop f xs)

pub range-append : {X : Type 0} (f t n : ℕ) (xs ys : List X) → n ≡ length xs → range f t (xs ++ ys) ≡ range f t xs ++ range (f - n) (t - n) ys
range-append f t n xs ys l =
    let k : t - f - length (drop f xs) ≡ (t - n) - (f - n) = omega (arith, length-drop f xs) in
    let m : f - length xs ≡ f - n = omega arith in
    ap (take (t - f)) (drop-append f xs ys ∙ ap (λ (j : ℕ). drop f xs ++ drop j ys) m) ∙ take-append (t - f) (drop f xs) (drop (f - n) ys) ∙ ap (λ (j : ℕ). take (t - f) (drop f xs) ++ take j (drop (f - n) ys)) k

pub range_capped : {X : Type 0} (f t e : ℕ) (xs : List X) → e ≡ min t (length xs) → range f e xs ≡ range f t xs
range_capped f t e xs c =
    let k : e - f ≡ min (t - f) (length (drop f xs)) = omega (arith, length-drop f xs) in
    ap (λ (j : ℕ). take j (drop f xs)) k ∙ take_min (t - f) (drop f xs)

pub range_none : {X : Type 0} (f t e : ℕ) (xs : List X) → e ≡ min t (length xs) → e ≤ f → range f t xs ≡ []
range_none f t e xs c past = sym (range_capped f t e xs c) ∙ let z : e - f ≡ 0 = omega arith in rw z

range-nil : {X : Type 0} (f t : ℕ) (xs : List X) → length xs ≡ 0 → range f t xs ≡ []
range-nil f t xs e = nil_from_length _ (omega (arith, length-take (t - f) (drop f xs), length-drop f xs))

-- what is left of a range after one more piece
pub range_step : (ps : List Piece) (i f t n : ℕ) (d : Piece) (next kept goal : List Ground) → i < length ps → n ≡ piece_len (get_or ps i d)
    → kept ++ range f t (course_of (drop i ps)) ≡ goal → next ≡ kept ++ range f t (expand (get_or ps i d))
    → next ++ range (f - n) (t - n) (course_of (drop (i + 1) ps)) ≡ goal
range_step ps i f t n d next kept goal h l was is =
    ap (λ (xs : List Ground). xs ++ range (f - n) (t - n) (course_of (drop (i + 1) ps))) is
    ∙ append_assoc kept _ _
    ∙ ap (λ (xs : List Ground). kept ++ xs) (sym (range-append f t n (expand (get_or ps i d)) (course_of (drop (i + 1) ps)) (l ∙ sym (length-expand (get_or ps i d)))))
    ∙ ap (λ (xs : List Ground). kept ++ range f t xs) (sym (course_of-drop ps i d h))
    ∙ was

pub range_done : (ps : List Piece) (i f t : ℕ) (kept goal : List Ground) → length ps ≤ i → kept ++ range f t (course_of (drop i ps)) ≡ goal → kept ≡ goal
range_done ps i f t kept goal past was =
    sym (append-nil kept) ∙ ap (λ (xs : List Ground). kept ++ xs) (sym (range-nil f t (course_of (drop i ps)) (ap (λ (xs : List Piece). length (course_of xs)) (drop_all i ps past)))) ∙ was

-- ---- where each piece starts

pub start_of_more : (ps : List Piece) (i at n : ℕ) (d : Piece) → i < length ps → at ≡ start_of ps i → n ≡ piece_len (get_or ps i d) → at + n ≡ start_of ps (i + 1)
start_of_more ps i at n d h a l =
    let e : course_of (take (i + 1) ps) ≡ course_of (take i ps) ++ expand (get_or ps i d) = ap course_of (take_more ps i d h) ∙ course_of-push (take i ps) (get_or ps i d) in
    omega (arith, ap length e, length-append (course_of (take i ps)) (expand (get_or ps i d)), length-expand (get_or ps i d))

pub start_of_all : (ps : List Piece) (i at : ℕ) → length ps ≤ i → at ≡ start_of ps i → at ≡ length (course_of ps)
start_of_all ps i at h a = a ∙ ap (λ (xs : List Piece). length (course_of xs)) (take_all i ps h)

-- the starts of the first i pieces
pub record StartsBelow (starts : List ℕ) (ps : List Piece) (i : ℕ) : Type 0 where
  pub count : length starts ≡ i
  pub start : (k : ℕ) → k < i → get_or starts k 0 ≡ start_of ps k

pub starts_more : (starts : List ℕ) (ps : List Piece) (i at : ℕ) → length starts ≡ i → ((k : ℕ) → k < i → get_or starts k 0 ≡ start_of ps k) → at ≡ start_of ps i → StartsBelow (starts ++ at ∷ []) ps (i + 1)
starts_more starts ps i at c s a = record {
  count = length_push starts at ∙ omega arith;
  start = λ k h. ⊎_elim
      (λ (lt : k < i). get_or_append_left starts (at ∷ []) 0 k (omega arith) ∙ s k lt)
      (λ (ge : i ≤ k). let e : k ≡ i = omega arith in get_or_push starts at 0 k (c ∙ sym e) ∙ a ∙ ap (start_of ps) (sym e))
      (cases_lt k i);
}

pub starts_all : (starts : List ℕ) (ps : List Piece) (i : ℕ) → length ps ≤ i → i ≤ length ps → length starts ≡ i → ((k : ℕ) → k < i → get_or starts k 0 ≡ start_of ps k) → AreStarts starts ps
starts_all starts ps i h g c s = record { count = omega arith; start = λ k lt. s k (omega arith) }

-- ---- from the other end

pub turned_step : (ps : List Piece) (i j : ℕ) (d : Piece) (out next piece : List Ground) → i < length ps → j ≡ i + 1 → out ≡ turned (course_of (drop j ps)) → piece ≡ turned (expand (get_or ps i d)) → next ≡ out ++ piece → next ≡ turned (course_of (drop i ps))
turned_step ps i j d out next piece h e o p n =
    n ∙ ap (λ (xs : List Ground). xs ++ piece) (o ∙ ap (λ (k : ℕ). turned (course_of (drop k ps))) e) ∙ ap (λ (xs : List Ground). turned (course_of (drop (i + 1) ps)) ++ xs) p
    ∙ sym (turned-append (expand (get_or ps i d)) (course_of (drop (i + 1) ps)))
    ∙ ap turned (sym (course_of-drop ps i d h))

pub turned_none : (ps : List Piece) (i : ℕ) → length ps ≤ i → [] ≡ turned (course_of (drop i ps))
turned_none ps i h = ap (λ (xs : List Piece). turned (course_of xs)) (sym (drop_all i ps h))

-- ---- the piece that has an entry

start_le_length : (ps : List Piece) (k : ℕ) → start_of ps k ≤ length (course_of ps)
start_le_length ps k = omega (arith, ap length (flat_map-append expand (take k ps) (drop k ps)), ap (λ (xs : List Piece). length (course_of xs)) (take-append-drop k ps), length-append (course_of (take k ps)) (course_of (drop k ps)))

start_rises : (ps : List Piece) (i k : ℕ) → i ≤ k → start_of ps i ≤ start_of ps k
start_rises ps i k h = rw (← take-take i k ps h) (start_le_length (take k ps) i)

pub starts_in_order : (starts : List ℕ) (ps : List Piece) → AreStarts starts ps → IsNonDecreasingBy (λ (s : ℕ). s) starts
starts_in_order starts ps s = IsNonDecreasingBy-from_default (λ (n : ℕ). n) starts 0 (λ i j le lt. rw (s.start i (omega (arith, s.count)), s.start j (omega (arith, s.count))) (start_rises ps i j le))

-- what a search over the starts found: the first r of them are not behind the entry j
pub record FindsPlace (starts : List ℕ) (ps : List Piece) (j r : ℕ) : Type 0 where
  pub found : 0 < r
  pub within : r ≤ length ps
  pub start : get_or starts (r - 1) 0 ≡ start_of ps (r - 1)
  pub above : start_of ps (r - 1) ≤ j
  pub below : j < start_of ps r

pub finds_place : (starts : List ℕ) (ps : List Piece) (j r : ℕ) → AreStarts starts ps → j < length (course_of ps) → r ≤ length starts
    → ((k : ℕ) → k < r → get_or starts k 0 ≤ j) → ((k : ℕ) → r ≤ k → k < length starts → j < get_or starts k 0)
    → FindsPlace starts ps j r
finds_place starts ps j r s h le up past =
    let z : start_of ps 0 ≡ 0 = refl in
    let positive : 0 < r = ⊎_elim
    (λ (lt : 0 < r). lt)
    (λ (none : r ≤ 0).
    let some : 0 < length ps = ⊎_elim (λ (lt : 0 < length ps). lt) (λ (ge : length ps ≤ 0). absurd (let e : length (course_of ps) ≡ 0 = ap (λ (xs : List Piece). length (course_of xs)) (nil_from_length ps (omega arith)) in omega arith)) (cases_lt 0 (length ps)) in
    absurd (let f = past 0 none (omega (arith, s.count)) in let e = s.start 0 some in omega (arith, f, e, z)))
    (cases_lt 0 r) in
    let low : r - 1 < length ps = omega (arith, s.count) in
    record {
      found = positive;
      within = omega (arith, s.count);
      start = s.start (r - 1) low;
      above = let f = up (r - 1) (omega arith) in let e = s.start (r - 1) low in omega (arith, f, e);
      below = ⊎_elim
          (λ (lt : r < length ps). let f = past r (omega arith) (omega (arith, s.count)) in let e = s.start r lt in omega (arith, f, e))
          (λ (ge : length ps ≤ r). rw (take_all r ps ge) h)
          (cases_lt r (length ps));
    }

-- the entry lies in the piece before the r-th
pub place_inside : (starts : List ℕ) (ps : List Piece) (j r : ℕ) (d : Piece) → FindsPlace starts ps j r → j - start_of ps (r - 1) < piece_len (get_or ps (r - 1) d)
place_inside starts ps j r d f =
    let e = start_of_more ps (r - 1) (start_of ps (r - 1)) (piece_len (get_or ps (r - 1) d)) d (omega (arith, f.within, f.found)) refl refl in
    let k : r - 1 + 1 ≡ r = omega (arith, f.found) in
    let g : start_of ps (r - 1 + 1) ≡ start_of ps r = ap (start_of ps) k in
    omega (arith, f.below, f.above, e, g)

pub place_is : (starts : List ℕ) (ps : List Piece) (j r : ℕ) (d : Piece) → FindsPlace starts ps j r → slice_get (course_of ps) j ≡ Some (ground_of (get_or ps (r - 1) d) (j - start_of ps (r - 1)))
place_is starts ps j r d f =
    let p : Piece = get_or ps (r - 1) d in
    let i : ℕ = j - start_of ps (r - 1) in
    let in' = place_inside starts ps j r d f in
    let low : r - 1 < length ps = omega (arith, f.within, f.found) in
    let g : Ground = ground_of p i in
    let at : start_of ps (r - 1) + i ≡ j = omega (arith, f.above) in
    slice_get-get_or (course_of ps) j g (let le = start_le_length ps r in omega (arith, f.below, le))
    ∙ ap (λ (k : ℕ). Some (get_or (course_of ps) k g)) (sym at)
    ∙ ap Some (get_or-flat_map expand ps (r - 1) i d g low (omega (arith, in', length-expand p)) ∙ get_or-expand p i g in')

-- what was read at the place that the search found
pub record ReadsPlace (ps : List Piece) (j start : ℕ) (p : Piece) : Type 0 where
  pub inside : j - start < piece_len p
  pub is : slice_get (course_of ps) j ≡ Some (ground_of p (j - start))

pub reads_place : (xs starts : List ℕ) (ps : List Piece) (j r start : ℕ) (p : Piece) → xs ≡ starts → AreStarts starts ps → j < length (course_of ps) → r ≤ length xs
    → ((k : ℕ) → k < r → get_or xs k 0 ≤ j) → ((k : ℕ) → r ≤ k → k < length xs → j < get_or xs k 0)
    → start ≡ get_or starts (r - 1) start → p ≡ get_or ps (r - 1) p → ReadsPlace ps j start p
reads_place xs starts ps j r start p e s h le up past is at =
    let f = finds_place xs ps j r (rw e s) h le up past in
    let low : r - 1 < length starts = omega (arith, f.within, f.found, s.count) in
    let b : start ≡ start_of ps (r - 1) = get_or_read starts (r - 1) start low is 0 ∙ ap (λ (l : List ℕ). get_or l (r - 1) 0) (sym e) ∙ f.start in
    let P : ℕ → Type 0 = λ k. j - k < piece_len p in
    let Q : Piece → Type 0 = λ q. j - start_of ps (r - 1) < piece_len q in
    record {
      inside = subst P (sym b) (subst Q (sym at) (place_inside xs ps j r p f));
      is = place_is xs ps j r p f ∙ ap (λ (q : Piece). Some (ground_of q (j - start_of ps (r - 1)))) (sym at) ∙ ap (λ (k : ℕ). Some (ground_of p (j - k))) (sym b);
    }
