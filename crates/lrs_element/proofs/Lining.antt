-- The marks' rules, from the first bad mark to what each place keeps, and back.
use Rattle.std.proofs.Common.{ℕ, zero, suc, ◌≡◌, ◌+◌, ◌-◌, ◌<◌, ◌≤◌, Bool, true, false, if◌then◌else◌, List, [], ◌∷◌, ◌++◌, length, get_or, take, drop, map, sym, ◌∙◌, ap, refl, subst, arith, ⊎_elim, Some, None, Option}
use Rattle.std.specs.Prelude.{reverse, not, nat_lt, nat_le, nat_eq, ◌||◌, ◌&&◌, is_none, filter}
use Rattle.std.specs.Option.{option_map}
use Rattle.std.specs.List.{list_any, All}
use Rattle.std.proofs.lemmas.Bool.{cases_lt, or_right, or_parts, or_from, and_parts, and_from, not-false, ltb-true, ltb-false, eqb-true, lt-ltb, le-ltb, le-leb, lt-leb, eq-eqb, ne_eqb, false_from_ne_true, both_ways}
use Rattle.std.proofs.lemmas.List.{length-map, length-take, length-drop, length-append, length-reverse, get_or-map, get_or-take, get_or-drop, get_or-reverse, get_or_append_left, get_or-append_right, drop_more, drop_all, take-append-drop, append-nil, append_assoc, reverse-append}
use Rattle.std.proofs.lemmas.List.Folds.{Any-from_list_any, list_any_at, list_any-append, list_any_none}
use Rattle.std.proofs.lemmas.List.Elements.{filter-append}
use Rattle.lrs_element.specs.declared.marks.Mark.{Mark}
use Rattle.lrs_measure.specs.Limits.{greatest_measure, most_marks}
use Rattle.lrs_element.specs.Marks.{no_mark, last_of, first_mark, last_mark, is_out_of_order, misses_the_end, first_bad_mark, bad_mark, are_marks, is_inner_mark, marks_to, marks_from, joined_marks, mirrored, is_out_of_range}
use Rattle.lrs_element.specs.Lines.{moved_on, mark_at, Rises, IsLine}

-- ---- the last mark and the first one

last_of_is : (m : Mark) (xs : List Mark) → last_of m xs ≡ get_or (m ∷ xs) (length xs) no_mark
last_of_is m [] = refl
last_of_is m (x ∷ xs) = last_of_is x xs

pub last_mark_is : (xs : List Mark) → 0 < length xs → last_mark xs ≡ mark_at xs (length xs - 1)
last_mark_is [] h = absurd (omega arith)
last_mark_is (x ∷ xs) h = last_of_is x xs ∙ ap (λ (k : ℕ). get_or (x ∷ xs) k no_mark) (omega arith)

pub first_mark_is : (xs : List Mark) → first_mark xs ≡ mark_at xs 0
first_mark_is [] = refl
first_mark_is (x ∷ xs) = refl

-- ---- from the first bad mark

-- none of the three rules is broken
record IsGood (len : ℕ) (before : Option Mark) (m : Mark) (rest : List Mark) : Type 0 where
  order : is_out_of_order before m ≡ false
  small : nat_lt greatest_measure m.measure ≡ false
  end : misses_the_end len m rest ≡ false
  next : first_bad_mark len (Some m) rest ≡ None

good_test : (bad : Bool) (o : Option ℕ) → (if bad then Some 0 else option_map (λ i. i + 1) o) ≡ None → (bad ≡ false) × (o ≡ None)
good_test true o h = absurd (cc h)
good_test false None h = (refl, refl)
good_test false (Some x) h = absurd (cc h)

head_good : (len : ℕ) (before : Option Mark) (m : Mark) (rest : List Mark) → first_bad_mark len before (m ∷ rest) ≡ None → IsGood len before m rest
head_good len before m rest h =
    let t = good_test (is_out_of_order before m || nat_lt greatest_measure m.measure || misses_the_end len m rest) (first_bad_mark len (Some m) rest) h in
    let p = or_parts _ _ t.0 in
    let q = or_parts _ _ p.0 in
    record { order = q.0; small = q.1; end = p.1; next = t.1 }

in_order : (p q : Mark) → is_out_of_order (Some p) q ≡ false → Rises p q
in_order p q h = let t = and_parts _ _ (not-false _ h) in record { chainage = ltb-true _ _ t.0; measure = ltb-true _ _ t.1 }

good_rises : (len : ℕ) (before : Option Mark) (xs : List Mark) → first_bad_mark len before xs ≡ None → (k : ℕ) → suc k < length xs → Rises (mark_at xs k) (mark_at xs (suc k))
good_rises len before [] h k lt = absurd (omega arith)
good_rises len before (x ∷ []) h k lt = absurd (omega arith)
good_rises len before (x ∷ y ∷ xs) h zero lt = in_order x y (head_good len (Some x) y xs (head_good len before x (y ∷ xs) h).next).order
good_rises len before (x ∷ y ∷ xs) h (suc k) lt = good_rises len (Some x) (y ∷ xs) (head_good len before x (y ∷ xs) h).next k (omega arith)

good_small : (len : ℕ) (before : Option Mark) (xs : List Mark) → first_bad_mark len before xs ≡ None → (k : ℕ) → k < length xs → (mark_at xs k).measure ≤ greatest_measure
good_small len before [] h k lt = absurd (omega arith)
good_small len before (x ∷ xs) h zero lt = ltb-false _ _ (head_good len before x xs h).small
good_small len before (x ∷ xs) h (suc k) lt = good_small len (Some x) xs (head_good len before x xs h).next k (omega arith)

good_end : (len : ℕ) (before : Option Mark) (x : Mark) (xs : List Mark) → first_bad_mark len before (x ∷ xs) ≡ None → (get_or (x ∷ xs) (length xs) no_mark).chainage ≡ len
good_end len before x [] h = eqb-true _ _ (not-false _ (head_good len before x [] h).end)
good_end len before x (y ∷ xs) h = good_end len (Some x) y xs (head_good len before x (y ∷ xs) h).next

good_start : (len : ℕ) (xs : List Mark) → 0 < length xs → first_bad_mark len None xs ≡ None → (mark_at xs 0).chainage ≡ 0
good_start len [] h e = absurd (omega arith)
good_start len (x ∷ xs) h e = eqb-true _ _ (not-false _ (head_good len None x xs e).order)

good_last : (len : ℕ) (xs : List Mark) → 0 < length xs → first_bad_mark len None xs ≡ None → (mark_at xs (length xs - 1)).chainage ≡ len
good_last len [] h e = absurd (omega arith)
good_last len (x ∷ xs) h e = ap (λ (k : ℕ). (get_or (x ∷ xs) k no_mark).chainage) (omega arith) ∙ good_end len None x xs e

count_test : (few many : Bool) (o : Option ℕ) → (if few then Some 0 else if many then Some most_marks else o) ≡ None → (few ≡ false) × (many ≡ false) × (o ≡ None)
count_test true many o h = absurd (cc h)
count_test false true o h = absurd (cc h)
count_test false false o h = (refl, refl, h)

pub IsLine-from_none : (len : ℕ) (xs : List Mark) → bad_mark len xs ≡ None → IsLine len xs
IsLine-from_none len xs h =
    let t = count_test (nat_lt (length xs) 2) (nat_lt most_marks (length xs)) (first_bad_mark len None xs) h in
    let enough : 2 ≤ length xs = ltb-false _ _ t.0 in
    record {
      enough = enough;
      few = ltb-false _ _ t.1;
      starts = good_start len xs (omega arith) t.2;
      rises = λ k lt. let e : suc k ≡ k + 1 = omega arith in let P : ℕ → Type 0 = λ j. Rises (mark_at xs k) (mark_at xs j) in subst P e (good_rises len None xs t.2 k (omega arith));
      small = good_small len None xs t.2;
      ends = good_last len xs (omega arith) t.2;
    }

-- ---- and back

out_of_order_not : (p q : Mark) → Rises p q → is_out_of_order (Some p) q ≡ false
out_of_order_not p q r = ap not (and_from _ _ (lt-ltb _ _ r.chainage) (lt-ltb _ _ r.measure))

none_test : (bad : Bool) (o : Option ℕ) → bad ≡ false → o ≡ None → (if bad then Some 0 else option_map (λ i. i + 1) o) ≡ None
none_test bad o b n = ap (λ (t : Bool). if t then Some 0 else option_map (λ i. i + 1) o) b ∙ ap (option_map (λ i. i + 1)) n

none_bad : (len : ℕ) (before : Option Mark) (x : Mark) (xs : List Mark) → is_out_of_order before x ≡ false
    → ((k : ℕ) → suc k < length (x ∷ xs) → Rises (mark_at (x ∷ xs) k) (mark_at (x ∷ xs) (suc k)))
    → ((k : ℕ) → k < length (x ∷ xs) → (mark_at (x ∷ xs) k).measure ≤ greatest_measure)
    → (get_or (x ∷ xs) (length xs) no_mark).chainage ≡ len → first_bad_mark len before (x ∷ xs) ≡ None
none_bad len before x [] o r s e = none_test _ None (or_from _ _ (or_from _ _ o (le-ltb _ _ (s 0 (omega arith)))) (ap not (eq-eqb _ _ e))) refl
none_bad len before x (y ∷ xs) o r s e = none_test _ _ (or_from _ _ (or_from _ _ o (le-ltb _ _ (s 0 (omega arith)))) refl)
    (none_bad len (Some x) y xs (out_of_order_not x y (r 0 (omega arith))) (λ k lt. r (suc k) (omega arith)) (λ k lt. s (suc k) (omega arith)) e)

none_from_line : (len : ℕ) (xs : List Mark) → IsLine len xs → first_bad_mark len None xs ≡ None
none_from_line len [] l = refl
none_from_line len (x ∷ xs) l = none_bad len None x xs (ap not (eq-eqb _ _ l.starts))
    (λ k lt. let e : k + 1 ≡ suc k = omega arith in let P : ℕ → Type 0 = λ j. Rises (mark_at (x ∷ xs) k) (mark_at (x ∷ xs) j) in subst P e (l.rises k (omega arith)))
    l.small (ap (λ (k : ℕ). (get_or (x ∷ xs) k no_mark).chainage) (omega arith) ∙ l.ends)

pub none_from_IsLine : (len : ℕ) (xs : List Mark) → IsLine len xs → bad_mark len xs ≡ None
none_from_IsLine len xs l =
    ap (λ (b : Bool). if b then Some 0 else if nat_lt most_marks (length xs) then Some most_marks else first_bad_mark len None xs) (le-ltb _ _ l.enough)
    ∙ ap (λ (b : Bool). if b then Some most_marks else first_bad_mark len None xs) (le-ltb _ _ l.few)
    ∙ none_from_line len xs l

ends_at : (len : ℕ) (xs : List Mark) → IsLine len xs → (last_mark xs).chainage ≡ len
ends_at len xs l = ap (λ (m : Mark). m.chainage) (last_mark_is xs (omega (arith, l.enough))) ∙ l.ends

pub are_marks-from_line : (len : ℕ) (xs : List Mark) → IsLine len xs → are_marks xs ≡ true
are_marks-from_line len xs l = ap (λ (n : ℕ). is_none (bad_mark n xs)) (ends_at len xs l) ∙ ap is_none (none_from_IsLine len xs l)

none_is : (o : Option ℕ) → is_none o ≡ true → o ≡ None
none_is None h = refl
none_is (Some x) h = absurd (cc h)

pub line_from_are_marks : (xs : List Mark) → are_marks xs ≡ true → IsLine (last_mark xs).chainage xs
line_from_are_marks xs h = IsLine-from_none _ xs (none_is _ h)

-- ---- the order of any two marks

pub rises_far : (len : ℕ) (xs : List Mark) → IsLine len xs → (i j : ℕ) → i < j → j < length xs → Rises (mark_at xs i) (mark_at xs j)
rises_far len xs l i zero lt h = absurd (omega arith)
rises_far len xs l i (suc j) lt h =
    let e : j + 1 ≡ suc j = omega arith in
    let P : ℕ → Type 0 = λ k. Rises (mark_at xs j) (mark_at xs k) in
    let step : Rises (mark_at xs j) (mark_at xs (suc j)) = subst P e (l.rises j (omega arith)) in
    ⊎_elim
    (λ (before : i < j). let f = rises_far len xs l i j before (omega arith) in record { chainage = omega (arith, f.chainage, step.chainage); measure = omega (arith, f.measure, step.measure) })
    (λ (ge : j ≤ i). let s : j ≡ i = omega arith in let Q : ℕ → Type 0 = λ k. Rises (mark_at xs k) (mark_at xs (suc j)) in subst Q s step)
    (cases_lt i j)

pub chainage_le : (len : ℕ) (xs : List Mark) → IsLine len xs → (k : ℕ) → k < length xs → (mark_at xs k).chainage ≤ len
chainage_le len xs l k h = ⊎_elim
    (λ (lt : k < length xs - 1). let r = rises_far len xs l k (length xs - 1) lt (omega arith) in omega (arith, r.chainage, l.ends))
    (λ (ge : length xs - 1 ≤ k). let e : k ≡ length xs - 1 = omega arith in rw e (omega (arith, l.ends)))
    (cases_lt k (length xs - 1))

pub measure_le : (len : ℕ) (xs : List Mark) → IsLine len xs → (i j : ℕ) → i ≤ j → j < length xs → (mark_at xs i).measure ≤ (mark_at xs j).measure
measure_le len xs l i j le h = ⊎_elim
    (λ (lt : i < j). let r = rises_far len xs l i j lt h in omega (arith, r.measure))
    (λ (ge : j ≤ i). let e : i ≡ j = omega arith in rw e (omega arith))
    (cases_lt i j)

-- ---- from the other end

-- a mark seen from the other end
abbrev pub mirror : ℕ → ℕ → Mark → Mark
mirror length ends m = record { chainage = length - m.chainage; measure = ends - m.measure }

pub IsLine-mirrored : (len : ℕ) (xs : List Mark) → IsLine len xs → IsLine len (reverse (map (mirror len ((mark_at xs 0).measure + (mark_at xs (length xs - 1)).measure)) xs))
IsLine-mirrored len xs l =
    let sum : ℕ = (mark_at xs 0).measure + (mark_at xs (length xs - 1)).measure in
    let ys : List Mark = reverse (map (mirror len sum) xs) in
    let n : length ys ≡ length xs = length-reverse (map (mirror len sum) xs) ∙ length-map xs (mirror len sum) in
    let at : (k : ℕ) → k < length xs → mark_at ys k ≡ mirror len sum (mark_at xs (length xs - 1 - k)) = λ k h.
    get_or-reverse (map (mirror len sum) xs) k no_mark (omega (arith, length-map xs (mirror len sum)))
    ∙ ap (λ (j : ℕ). get_or (map (mirror len sum) xs) (j - 1 - k) no_mark) (length-map xs (mirror len sum))
    ∙ get_or-map (mirror len sum) xs (length xs - 1 - k) no_mark no_mark (omega arith) in
    record {
      enough = omega (arith, n, l.enough);
      few = omega (arith, n, l.few);
      starts = let e = at 0 (omega (arith, l.enough)) in ap (λ (m : Mark). m.chainage) e ∙ ap (λ (k : ℕ). len - (mark_at xs k).chainage) (let z : length xs - 1 - 0 ≡ length xs - 1 = omega arith in z) ∙ omega (arith, l.ends);
      rises = λ k h.
          let j : ℕ = length xs - 1 - (k + 1) in
          let e : length xs - 1 - k ≡ j + 1 = omega (arith, n) in
          let p : mark_at ys k ≡ mirror len sum (mark_at xs (j + 1)) = at k (omega (arith, n)) ∙ ap (λ (i : ℕ). mirror len sum (mark_at xs i)) e in
          let q : mark_at ys (k + 1) ≡ mirror len sum (mark_at xs j) = at (k + 1) (omega (arith, n)) in
          let r = l.rises j (omega (arith, n)) in
          let c = chainage_le len xs l (j + 1) (omega (arith, n)) in
          let m = measure_le len xs l (j + 1) (length xs - 1) (omega (arith, n)) (omega (arith, n)) in
          rw (p, q) (record { chainage = omega (arith, r.chainage, c); measure = omega (arith, r.measure, m) });
      small = λ k h.
          let b = l.small (length xs - 1) (omega (arith, l.enough)) in
          let f = measure_le len xs l 0 (length xs - 1 - k) (omega arith) (omega (arith, n, l.enough)) in
          rw (at k (omega (arith, n))) (omega (arith, b, f));
      ends = let e = at (length xs - 1) (omega (arith, l.enough)) in
          ap (λ (k : ℕ). (mark_at ys (k - 1)).chainage) n ∙ ap (λ (m : Mark). m.chainage) e ∙ ap (λ (k : ℕ). len - (mark_at xs k).chainage) (let z : length xs - 1 - (length xs - 1) ≡ 0 = omega arith in z) ∙ omega (arith, l.starts);
    }

pub mirrored_is : (len : ℕ) (xs : List Mark) → IsLine len xs → mirrored xs ≡ reverse (map (mirror len ((mark_at xs 0).measure + (mark_at xs (length xs - 1)).measure)) xs)
mirrored_is len xs l =
    ap (λ (c : ℕ). reverse (map (mirror c ((first_mark xs).measure + (last_mark xs).measure)) xs)) (ends_at len xs l)
    ∙ ap (λ (m : Mark). reverse (map (mirror len (m.measure + (last_mark xs).measure)) xs)) (first_mark_is xs)
    ∙ ap (λ (m : Mark). reverse (map (mirror len ((mark_at xs 0).measure + m.measure)) xs)) (last_mark_is xs (omega (arith, l.enough)))

-- ---- one line after another

-- a mark of the second line, counted on from the first
abbrev moved : ℕ → ℕ → ℕ → Mark → Mark
moved chainage up down m = record { chainage = m.chainage + chainage; measure = (m.measure + up) - down }

pub IsLine-joined : (len more : ℕ) (xs ys : List Mark) (down : ℕ) → IsLine len xs → IsLine more ys → down ≡ (mark_at ys 0).measure
    → length xs + (length ys - 1) ≤ most_marks
    → (let up : ℕ = (mark_at xs (length xs - 1)).measure in All (λ m. m.measure ≤ greatest_measure) (xs ++ map (moved len up down) (drop 1 ys)))
    → IsLine (more + len) (xs ++ map (moved len (mark_at xs (length xs - 1)).measure down) (drop 1 ys))
IsLine-joined len more xs ys down l k d few small =
    let up : ℕ = (mark_at xs (length xs - 1)).measure in
    let zs : List Mark = xs ++ map (moved len up down) (drop 1 ys) in
    let tail : length (map (moved len up down) (drop 1 ys)) ≡ length ys - 1 = length-map (drop 1 ys) (moved len up down) ∙ length-drop 1 ys in
    let n : length zs ≡ length xs + (length ys - 1) = length-append xs (map (moved len up down) (drop 1 ys)) ∙ ap (λ (i : ℕ). length xs + i) tail in
    let left : (i : ℕ) → i < length xs → mark_at zs i ≡ mark_at xs i = λ i h. get_or_append_left xs (map (moved len up down) (drop 1 ys)) no_mark i h in
    let right : (i : ℕ) → i + 1 < length ys → mark_at zs (length xs + i) ≡ moved len up down (mark_at ys (i + 1)) = λ i h.
    get_or-append_right xs (map (moved len up down) (drop 1 ys)) (length xs) (length xs + i) no_mark refl (omega arith)
    ∙ ap (λ (j : ℕ). get_or (map (moved len up down) (drop 1 ys)) j no_mark) (let z : length xs + i - length xs ≡ i = omega arith in z)
    ∙ get_or-map (moved len up down) (drop 1 ys) i no_mark no_mark (omega (arith, length-drop 1 ys))
    ∙ ap (moved len up down) (get_or-drop 1 ys i no_mark ∙ ap (λ (j : ℕ). mark_at ys j) (omega arith)) in
    record {
      enough = omega (arith, n, l.enough);
      few = omega (arith, n, few);
      starts = let e = left 0 (omega (arith, l.enough)) in ap (λ (m : Mark). m.chainage) e ∙ l.starts;
      rises = λ i h. ⊎_elim
          (λ (inner : i + 1 < length xs). rw (left i (omega arith), left (i + 1) inner) (l.rises i inner))
          (λ (past : length xs ≤ i + 1). ⊎_elim
          (λ (seam : i < length xs).
          let e : i + 1 ≡ length xs + 0 = omega arith in
          let p : mark_at zs i ≡ mark_at xs (length xs - 1) = left i seam ∙ ap (mark_at xs) (omega arith) in
          let q : mark_at zs (i + 1) ≡ moved len up down (mark_at ys 1) = ap (mark_at zs) e ∙ right 0 (omega (arith, k.enough)) in
          let r = k.rises 0 (omega (arith, k.enough)) in
          rw (p, q) (record { chainage = omega (arith, r.chainage, l.ends); measure = omega (arith, r.measure, d) }))
          (λ (later : length xs ≤ i).
          let j : ℕ = i - length xs in
          let e : i ≡ length xs + j = omega arith in
          let f : i + 1 ≡ length xs + (j + 1) = omega arith in
          let p : mark_at zs i ≡ moved len up down (mark_at ys (j + 1)) = ap (mark_at zs) e ∙ right j (omega (arith, n)) in
          let q : mark_at zs (i + 1) ≡ moved len up down (mark_at ys (j + 1 + 1)) = ap (mark_at zs) f ∙ right (j + 1) (omega (arith, n)) in
          let r = k.rises (j + 1) (omega (arith, n)) in
          let m = measure_le more ys k 0 (j + 1) (omega arith) (omega (arith, n)) in
          rw (p, q) (record { chainage = omega (arith, r.chainage); measure = omega (arith, r.measure, m, d) }))
          (cases_lt i (length xs)))
          (cases_lt (i + 1) (length xs));
      small = λ i h. small i no_mark h;
      ends =
          let e : length zs - 1 ≡ length xs + (length ys - 2) = omega (arith, n, k.enough) in
          let f : length ys - 2 + 1 ≡ length ys - 1 = omega (arith, k.enough) in
          ap (λ (i : ℕ). (mark_at zs i).chainage) e ∙ ap (λ (m : Mark). m.chainage) (right (length ys - 2) (omega (arith, k.enough)))
          ∙ ap (λ (i : ℕ). (mark_at ys i).chainage + len) f ∙ ap (λ (c : ℕ). c + len) k.ends;
    }

pub joined_is : (len : ℕ) (xs ys : List Mark) → IsLine len xs → joined_marks xs ys ≡ xs ++ map (moved len (mark_at xs (length xs - 1)).measure (mark_at ys 0).measure) (drop 1 ys)
joined_is len xs ys l =
    ap (λ (c : ℕ). xs ++ map (moved c (last_mark xs).measure (first_mark ys).measure) (drop 1 ys)) (ends_at len xs l)
    ∙ ap (λ (m : Mark). xs ++ map (moved len m.measure (first_mark ys).measure) (drop 1 ys)) (last_mark_is xs (omega (arith, l.enough)))
    ∙ ap (λ (m : Mark). xs ++ map (moved len (mark_at xs (length xs - 1)).measure m.measure) (drop 1 ys)) (first_mark_is ys)

-- ---- a cut

filter_all : {X : Type 0} (p : X → Bool) (xs : List X) → ((k : ℕ) (d : X) → k < length xs → p (get_or xs k d) ≡ true) → filter p xs ≡ xs
filter_all p [] h = refl
filter_all {X = X} p (x ∷ xs) h = ap (λ (b : Bool). if b then x ∷ filter p xs else filter p xs) (h 0 x (omega arith)) ∙ ap (λ (l : List X). x ∷ l) (filter_all p xs (λ k d lt. h (suc k) d (omega arith)))

filter_none : {X : Type 0} (p : X → Bool) (xs : List X) → ((k : ℕ) (d : X) → k < length xs → p (get_or xs k d) ≡ false) → filter p xs ≡ []
filter_none p [] h = refl
filter_none p (x ∷ xs) h = ap (λ (b : Bool). if b then x ∷ filter p xs else filter p xs) (h 0 x (omega arith)) ∙ filter_none p xs (λ k d lt. h (suc k) d (omega arith))

at_default : (xs : List Mark) (k : ℕ) (d : Mark) → k < length xs → get_or xs k d ≡ mark_at xs k
at_default [] k d h = absurd (omega arith)
at_default (x ∷ xs) zero d h = refl
at_default (x ∷ xs) (suc k) d h = at_default xs k d (omega arith)

-- a mark stands at the chainage
pub record IsMarkAt (xs : List Mark) (at r : ℕ) : Type 0 where
  pub within : r < length xs
  pub is : (mark_at xs r).chainage ≡ at

pub marks_to_is : (len : ℕ) (xs : List Mark) (at r : ℕ) → IsLine len xs → IsMarkAt xs at r → marks_to at xs ≡ take (r + 1) xs
marks_to_is len xs at r l i =
    let p : Mark → Bool = λ m. nat_le m.chainage at in
    let front : filter p (take (r + 1) xs) ≡ take (r + 1) xs = filter_all p (take (r + 1) xs) (λ k d h.
    let lt : k < r + 1 = omega (arith, length-take (r + 1) xs) in
    let in' : k < length xs = omega (arith, length-take (r + 1) xs) in
    rw (get_or-take (r + 1) xs k d lt, at_default xs k d in') (le-leb _ _ (⊎_elim
    (λ (before : k < r). let f = rises_far len xs l k r before i.within in omega (arith, f.chainage, i.is))
    (λ (ge : r ≤ k). let e : k ≡ r = omega arith in rw e (omega (arith, i.is)))
    (cases_lt k r)))) in
    let back : filter p (drop (r + 1) xs) ≡ [] = filter_none p (drop (r + 1) xs) (λ k d h.
    let in' : r + 1 + k < length xs = omega (arith, length-drop (r + 1) xs) in
    rw (get_or-drop (r + 1) xs k d, at_default xs (r + 1 + k) d in') (lt-leb _ _ (let f = rises_far len xs l r (r + 1 + k) (omega arith) in' in omega (arith, f.chainage, i.is)))) in
    ap (filter p) (sym (take-append-drop (r + 1) xs)) ∙ filter-append p (take (r + 1) xs) (drop (r + 1) xs)
    ∙ ap (λ (ys : List Mark). ys ++ filter p (drop (r + 1) xs)) front ∙ ap (λ (ys : List Mark). take (r + 1) xs ++ ys) back ∙ append-nil (take (r + 1) xs)

-- a mark counted from a chainage on
abbrev pub from_there : ℕ → Mark → Mark
from_there at m = record { chainage = m.chainage - at; measure = m.measure }

pub marks_from_is : (len : ℕ) (xs : List Mark) (at r : ℕ) → IsLine len xs → IsMarkAt xs at r → marks_from at xs ≡ map (from_there at) (drop r xs)
marks_from_is len xs at r l i =
    let p : Mark → Bool = λ m. nat_le at m.chainage in
    let front : filter p (take r xs) ≡ [] = filter_none p (take r xs) (λ k d h.
    let lt : k < r = omega (arith, length-take r xs) in
    let in' : k < length xs = omega (arith, length-take r xs) in
    rw (get_or-take r xs k d lt, at_default xs k d in') (lt-leb _ _ (let f = rises_far len xs l k r lt i.within in omega (arith, f.chainage, i.is)))) in
    let back : filter p (drop r xs) ≡ drop r xs = filter_all p (drop r xs) (λ k d h.
    let in' : r + k < length xs = omega (arith, length-drop r xs) in
    rw (get_or-drop r xs k d, at_default xs (r + k) d in') (le-leb _ _ (⊎_elim
    (λ (behind : r < r + k). let f = rises_far len xs l r (r + k) behind in' in omega (arith, f.chainage, i.is))
    (λ (le : r + k ≤ r). let e : r + k ≡ r = omega arith in rw e (omega (arith, i.is)))
    (cases_lt r (r + k))))) in
    ap (map (from_there at)) (ap (filter p) (sym (take-append-drop r xs)) ∙ filter-append p (take r xs) (drop r xs)
    ∙ ap (λ (ys : List Mark). ys ++ filter p (drop r xs)) front ∙ back)

pub record IsInner (len : ℕ) (xs : List Mark) (at r : ℕ) : Type 0 where
  pub mark : IsMarkAt xs at r
  pub above : 0 < at
  pub below : at < len

pub IsLine-front : (len : ℕ) (xs : List Mark) (at r : ℕ) → IsLine len xs → IsInner len xs at r → IsLine at (take (r + 1) xs)
IsLine-front len xs at r l i =
    let n : length (take (r + 1) xs) ≡ r + 1 = omega (arith, length-take (r + 1) xs, i.mark.within) in
    let same : (k : ℕ) → k < r + 1 → mark_at (take (r + 1) xs) k ≡ mark_at xs k = λ k h. get_or-take (r + 1) xs k no_mark h in
    let positive : 0 < r = ⊎_elim (λ (lt : 0 < r). lt) (λ (z : r ≤ 0). absurd (let e : r ≡ 0 = omega arith in let c : (mark_at xs 0).chainage ≡ at = rw e at i.mark.is in omega (arith, l.starts, i.above, c))) (cases_lt 0 r) in
    record {
      enough = omega (arith, n, positive);
      few = omega (arith, n, l.few, i.mark.within);
      starts = ap (λ (m : Mark). m.chainage) (same 0 (omega arith)) ∙ l.starts;
      rises = λ k h. rw (same k (omega (arith, n)), same (k + 1) (omega (arith, n))) (l.rises k (omega (arith, n, i.mark.within)));
      small = λ k h. rw (same k (omega (arith, n))) (l.small k (omega (arith, n, i.mark.within)));
      ends = ap (λ (k : ℕ). (mark_at (take (r + 1) xs) k).chainage) (let e : length (take (r + 1) xs) - 1 ≡ r = omega (arith, n) in e) ∙ ap (λ (m : Mark). m.chainage) (same r (omega arith)) ∙ i.mark.is;
    }

pub IsLine-back : (len : ℕ) (xs : List Mark) (at r : ℕ) → IsLine len xs → IsInner len xs at r → IsLine (len - at) (map (from_there at) (drop r xs))
IsLine-back len xs at r l i =
    let n : length (map (from_there at) (drop r xs)) ≡ length xs - r = length-map (drop r xs) (from_there at) ∙ length-drop r xs in
    let same : (k : ℕ) → r + k < length xs → mark_at (map (from_there at) (drop r xs)) k ≡ from_there at (mark_at xs (r + k)) = λ k h.
    get_or-map (from_there at) (drop r xs) k no_mark no_mark (omega (arith, length-drop r xs)) ∙ ap (from_there at) (get_or-drop r xs k no_mark) in
    let later : r + 1 < length xs = ⊎_elim (λ (lt : r + 1 < length xs). lt)
    (λ (z : length xs ≤ r + 1). absurd (let e : r ≡ length xs - 1 = omega (arith, i.mark.within) in let c : (mark_at xs (length xs - 1)).chainage ≡ at = ap (λ (k : ℕ). (mark_at xs k).chainage) (sym e) ∙ i.mark.is in omega (arith, l.ends, i.below, c))) (cases_lt (r + 1) (length xs)) in
    let low : (k : ℕ) → r + k < length xs → at ≤ (mark_at xs (r + k)).chainage = λ k h. ⊎_elim
    (λ (behind : r < r + k). let f = rises_far len xs l r (r + k) behind h in omega (arith, f.chainage, i.mark.is))
    (λ (le : r + k ≤ r). let e : r + k ≡ r = omega arith in rw e (omega (arith, i.mark.is)))
    (cases_lt r (r + k)) in
    record {
      enough = omega (arith, n, later);
      few = omega (arith, n, l.few);
      starts = ap (λ (m : Mark). m.chainage) (same 0 (omega (arith, i.mark.within))) ∙ ap (λ (k : ℕ). (mark_at xs k).chainage - at) (let e : r + 0 ≡ r = omega arith in e) ∙ omega (arith, i.mark.is);
      rises = λ k h.
          let e : r + (k + 1) ≡ r + k + 1 = omega arith in
          let q : mark_at (map (from_there at) (drop r xs)) (k + 1) ≡ from_there at (mark_at xs (r + k + 1)) = same (k + 1) (omega (arith, n)) ∙ ap (λ (j : ℕ). from_there at (mark_at xs j)) e in
          let f = l.rises (r + k) (omega (arith, n)) in
          let b = low k (omega (arith, n)) in
          rw (same k (omega (arith, n)), q) (record { chainage = omega (arith, f.chainage, b); measure = f.measure });
      small = λ k h. rw (same k (omega (arith, n))) (l.small (r + k) (omega (arith, n)));
      ends =
          let e : r + (length xs - r - 1) ≡ length xs - 1 = omega (arith, i.mark.within) in
          ap (λ (k : ℕ). (mark_at (map (from_there at) (drop r xs)) (k - 1)).chainage) n ∙ ap (λ (m : Mark). m.chainage) (same (length xs - r - 1) (omega (arith, i.mark.within)))
          ∙ ap (λ (k : ℕ). (mark_at xs k).chainage - at) e ∙ ap (λ (c : ℕ). c - at) l.ends;
    }

-- where an inner mark stands
pub inner_place : (xs : List Mark) (at : ℕ) → is_inner_mark xs at ≡ true → (r : ℕ) × IsInner (last_mark xs).chainage xs at r
inner_place xs at h =
    let p = and_parts _ _ h in
    let q = and_parts _ _ p.0 in
    let a = Any-from_list_any (λ (m : Mark). nat_eq m.chainage at) xs p.1 in (
      a.0,
      record {
        mark = record { within = a.2; is = ap (λ (m : Mark). m.chainage) (sym (at_default xs a.0 a.1 a.2) ∙ a.3) ∙ eqb-true _ _ a.4 };
        above = ltb-true _ _ q.0;
        below = ltb-true _ _ q.1;
      },
    )

-- ---- loops

-- one more element of a list that is mapped
pub map_step : (f : Mark → Mark) (xs : List Mark) (i : ℕ) (d : Mark) (out goal : List Mark) → i < length xs → out ++ map f (drop i xs) ≡ goal → (out ++ f (get_or xs i d) ∷ []) ++ map f (drop (i + 1) xs) ≡ goal
map_step f xs i d out goal h was = append_assoc out (f (get_or xs i d) ∷ []) (map f (drop (i + 1) xs)) ∙ ap (λ (ys : List Mark). out ++ map f ys) (sym (drop_more xs i d h)) ∙ was

pub map_done : (f : Mark → Mark) (xs : List Mark) (i : ℕ) (out goal : List Mark) → length xs ≤ i → out ++ map f (drop i xs) ≡ goal → out ≡ goal
map_done f xs i out goal h was = sym (append-nil out) ∙ ap (λ (ys : List Mark). out ++ map f ys) (sym (drop_all i xs h)) ∙ was

-- ... and of one that is filtered and mapped
pub filter_step_yes : (p : Mark → Bool) (f : Mark → Mark) (xs : List Mark) (i : ℕ) (d : Mark) (out goal : List Mark) → i < length xs → p (get_or xs i d) ≡ true
    → out ++ map f (filter p (drop i xs)) ≡ goal → (out ++ f (get_or xs i d) ∷ []) ++ map f (filter p (drop (i + 1) xs)) ≡ goal
filter_step_yes p f xs i d out goal h t was =
    append_assoc out (f (get_or xs i d) ∷ []) (map f (filter p (drop (i + 1) xs)))
    ∙ ap (λ (b : Bool). out ++ map f (if b then get_or xs i d ∷ filter p (drop (i + 1) xs) else filter p (drop (i + 1) xs))) (sym t)
    ∙ ap (λ (ys : List Mark). out ++ map f (filter p ys)) (sym (drop_more xs i d h)) ∙ was

pub filter_step_no : (p : Mark → Bool) (f : Mark → Mark) (xs : List Mark) (i : ℕ) (d : Mark) (out goal : List Mark) → i < length xs → p (get_or xs i d) ≡ false
    → out ++ map f (filter p (drop i xs)) ≡ goal → out ++ map f (filter p (drop (i + 1) xs)) ≡ goal
filter_step_no p f xs i d out goal h t was =
    ap (λ (b : Bool). out ++ map f (if b then get_or xs i d ∷ filter p (drop (i + 1) xs) else filter p (drop (i + 1) xs))) (sym t)
    ∙ ap (λ (ys : List Mark). out ++ map f (filter p ys)) (sym (drop_more xs i d h)) ∙ was

pub filter_done : (p : Mark → Bool) (f : Mark → Mark) (xs : List Mark) (i : ℕ) (out goal : List Mark) → length xs ≤ i → out ++ map f (filter p (drop i xs)) ≡ goal → out ≡ goal
filter_done p f xs i out goal h was = sym (append-nil out) ∙ ap (λ (ys : List Mark). out ++ map f (filter p ys)) (sym (drop_all i xs h)) ∙ was

-- a list from its end, one element more
pub mirror_step : (f : Mark → Mark) (xs : List Mark) (i j : ℕ) (d : Mark) (out : List Mark) → i < length xs → j ≡ i + 1 → out ≡ reverse (map f (drop j xs)) → out ++ f (get_or xs i d) ∷ [] ≡ reverse (map f (drop i xs))
mirror_step f xs i j d out h e was =
    ap (λ (ys : List Mark). ys ++ f (get_or xs i d) ∷ []) (was ∙ ap (λ (k : ℕ). reverse (map f (drop k xs))) e)
    ∙ sym (reverse-append (f (get_or xs i d) ∷ []) (map f (drop (i + 1) xs)))
    ∙ ap (λ (ys : List Mark). reverse (map f ys)) (sym (drop_more xs i d h))

pub mirror_none : (f : Mark → Mark) (xs : List Mark) (i : ℕ) → length xs ≤ i → [] ≡ reverse (map f (drop i xs))
mirror_none f xs i h = ap (λ (ys : List Mark). reverse (map f ys)) (sym (drop_all i xs h))

-- whether the mark at i misses the end
last_misses : (len i : ℕ) (m : Mark) (xs ys : List Mark) → ys ≡ drop (i + 1) xs → i < length xs → misses_the_end len m ys ≡ (nat_eq (i + 1) (length xs) && not (nat_eq m.chainage len))
last_misses len i m xs [] e h =
    let n : i + 1 ≡ length xs = omega (arith, ap length e, length-drop (i + 1) xs) in
    sym (ap (λ (b : Bool). b && not (nat_eq m.chainage len)) (eq-eqb _ _ n))
last_misses len i m xs (y ∷ ys) e h =
    let n : nat_eq (i + 1) (length xs) ≡ false = ne_eqb _ _ (λ q. absurd (omega (arith, ap length e, length-drop (i + 1) xs, q))) in
    sym (ap (λ (b : Bool). b && not (nat_eq m.chainage len)) n)

-- one mark of the search for the first bad one
search_step : (len : ℕ) (before : Option Mark) (xs : List Mark) (i : ℕ) (d : Mark) → i < length xs
    → first_bad_mark len before (drop i xs) ≡ (if is_out_of_order before (get_or xs i d) || nat_lt greatest_measure (get_or xs i d).measure || (nat_eq (i + 1) (length xs) && not (nat_eq (get_or xs i d).chainage len)) then Some 0 else option_map (λ k. k + 1) (first_bad_mark len (Some (get_or xs i d)) (drop (i + 1) xs)))
search_step len before xs i d h =
    ap (first_bad_mark len before) (drop_more xs i d h)
    ∙ ap (λ (b : Bool). if is_out_of_order before (get_or xs i d) || nat_lt greatest_measure (get_or xs i d).measure || b then Some 0 else option_map (λ k. k + 1) (first_bad_mark len (Some (get_or xs i d)) (drop (i + 1) xs))) (last_misses len i (get_or xs i d) xs (drop (i + 1) xs) refl h)

pub search_found : (len : ℕ) (before : Option Mark) (xs : List Mark) (i : ℕ) (d : Mark) (bad : Bool) (goal : Option ℕ) → i < length xs → bad ≡ true
    → bad ≡ (is_out_of_order before (get_or xs i d) || nat_lt greatest_measure (get_or xs i d).measure || (nat_eq (i + 1) (length xs) && not (nat_eq (get_or xs i d).chainage len)))
    → option_map (λ k. k + i) (first_bad_mark len before (drop i xs)) ≡ goal → Some i ≡ goal
search_found len before xs i d bad goal h t e was =
    ap Some (let z : i ≡ 0 + i = omega arith in z)
    ∙ ap (λ (b : Bool). option_map (λ k. k + i) (if b then Some 0 else option_map (λ k. k + 1) (first_bad_mark len (Some (get_or xs i d)) (drop (i + 1) xs)))) (sym t ∙ e)
    ∙ ap (option_map (λ k. k + i)) (sym (search_step len before xs i d h)) ∙ was

shifted : (i : ℕ) (o : Option ℕ) → option_map (λ k. k + (i + 1)) o ≡ option_map (λ k. k + i) (option_map (λ k. k + 1) o)
shifted i None = refl
shifted i (Some k) = ap Some (omega arith)

pub search_on : (len : ℕ) (before : Option Mark) (xs : List Mark) (i : ℕ) (d : Mark) (bad : Bool) (goal : Option ℕ) → i < length xs → bad ≡ false
    → bad ≡ (is_out_of_order before (get_or xs i d) || nat_lt greatest_measure (get_or xs i d).measure || (nat_eq (i + 1) (length xs) && not (nat_eq (get_or xs i d).chainage len)))
    → option_map (λ k. k + i) (first_bad_mark len before (drop i xs)) ≡ goal → option_map (λ k. k + (i + 1)) (first_bad_mark len (Some (get_or xs i d)) (drop (i + 1) xs)) ≡ goal
search_on len before xs i d bad goal h t e was =
    shifted i (first_bad_mark len (Some (get_or xs i d)) (drop (i + 1) xs))
    ∙ ap (λ (b : Bool). option_map (λ k. k + i) (if b then Some 0 else option_map (λ k. k + 1) (first_bad_mark len (Some (get_or xs i d)) (drop (i + 1) xs)))) (sym t ∙ e)
    ∙ ap (option_map (λ k. k + i)) (sym (search_step len before xs i d h)) ∙ was

pub search_start : (o : Option ℕ) → option_map (λ k. k + 0) o ≡ o
search_start None = refl
search_start (Some k) = ap Some (omega arith)

pub search_end : (len : ℕ) (before : Option Mark) (xs : List Mark) (i : ℕ) (goal : Option ℕ) → length xs ≤ i → option_map (λ k. k + i) (first_bad_mark len before (drop i xs)) ≡ goal → None ≡ goal
search_end len before xs i goal h was = ap (λ (ys : List Mark). option_map (λ k. k + i) (first_bad_mark len before ys)) (sym (drop_all i xs h)) ∙ was

-- the bounds of marks
pub record InBounds (xs : List Mark) : Type 0 where
  pub some : 0 < length xs
  pub chainage : (k : ℕ) → k < length xs → (mark_at xs k).chainage ≤ (last_mark xs).chainage
  pub above : (k : ℕ) → k < length xs → (mark_at xs 0).measure ≤ (mark_at xs k).measure
  pub below : (k : ℕ) → k < length xs → (mark_at xs k).measure ≤ (last_mark xs).measure
  pub small : (last_mark xs).measure ≤ greatest_measure

pub in_bounds : (xs : List Mark) → are_marks xs ≡ true → InBounds xs
in_bounds xs h =
    let l = line_from_are_marks xs h in
    let e : last_mark xs ≡ mark_at xs (length xs - 1) = last_mark_is xs (omega (arith, l.enough)) in
    record {
      some = omega (arith, l.enough);
      chainage = chainage_le (last_mark xs).chainage xs l;
      above = λ k lt. measure_le (last_mark xs).chainage xs l 0 k (omega arith) lt;
      below = λ k lt. rw e (measure_le (last_mark xs).chainage xs l k (length xs - 1) (omega arith) (omega arith));
      small = rw e (l.small (length xs - 1) (omega (arith, l.enough)));
    }

-- what the three operations leave are marks
pub are_marks-mirrored : (xs : List Mark) → are_marks xs ≡ true → are_marks (mirrored xs) ≡ true
are_marks-mirrored xs h = let l = line_from_are_marks xs h in ap are_marks (mirrored_is (last_mark xs).chainage xs l) ∙ are_marks-from_line _ _ (IsLine-mirrored (last_mark xs).chainage xs l)

pub are_marks-to : (xs : List Mark) (at : ℕ) → are_marks xs ≡ true → is_inner_mark xs at ≡ true → are_marks (marks_to at xs) ≡ true
are_marks-to xs at h i =
    let l = line_from_are_marks xs h in
    let r = inner_place xs at i in
    ap are_marks (marks_to_is (last_mark xs).chainage xs at r.0 l r.1.mark) ∙ are_marks-from_line _ _ (IsLine-front (last_mark xs).chainage xs at r.0 l r.1)

pub are_marks-from : (xs : List Mark) (at : ℕ) → are_marks xs ≡ true → is_inner_mark xs at ≡ true → are_marks (marks_from at xs) ≡ true
are_marks-from xs at h i =
    let l = line_from_are_marks xs h in
    let r = inner_place xs at i in
    ap are_marks (marks_from_is (last_mark xs).chainage xs at r.0 l r.1.mark) ∙ are_marks-from_line _ _ (IsLine-back (last_mark xs).chainage xs at r.0 l r.1)

all_small : (xs : List Mark) → is_out_of_range xs ≡ false → All (λ m. m.measure ≤ greatest_measure) xs
all_small xs h k d lt = ltb-false _ _ (false_from_ne_true _ (λ t. absurd (both_ways _ h (list_any_at (λ (m : Mark). nat_lt greatest_measure m.measure) xs k d lt t))))

pub are_marks-joined : (xs ys : List Mark) → are_marks xs ≡ true → are_marks ys ≡ true → length (joined_marks xs ys) ≤ most_marks → is_out_of_range (joined_marks xs ys) ≡ false → are_marks (joined_marks xs ys) ≡ true
are_marks-joined xs ys h k few small =
    let l = line_from_are_marks xs h in
    let m = line_from_are_marks ys k in
    let e = joined_is (last_mark xs).chainage xs ys l in
    let f : Mark → Mark = moved (last_mark xs).chainage (mark_at xs (length xs - 1)).measure (mark_at ys 0).measure in
    let n : length (joined_marks xs ys) ≡ length xs + (length ys - 1) = ap length e ∙ length-append xs (map f (drop 1 ys)) ∙ ap (λ (i : ℕ). length xs + i) (length-map (drop 1 ys) f ∙ length-drop 1 ys) in
    ap are_marks e ∙ are_marks-from_line _ _ (IsLine-joined (last_mark xs).chainage (last_mark ys).chainage xs ys (mark_at ys 0).measure l m refl (omega (arith, n, few)) (rw e at (all_small (joined_marks xs ys) small)))

pub are_marks-new : (len : ℕ) (xs : List Mark) → bad_mark len xs ≡ None → are_marks xs ≡ true
are_marks-new len xs h = are_marks-from_line len xs (IsLine-from_none len xs h)

-- ---- past the greatest measure

list_any_mapped : (p : Mark → Bool) (f : Mark → Mark) (ys : List Mark) → list_any p (map f ys) ≡ list_any (λ y. p (f y)) ys
list_any_mapped p f [] = refl
list_any_mapped p f (y ∷ ys) = ap (λ (b : Bool). p (f y) || b) (list_any_mapped p f ys)

-- the highest measure of two lines is that of the second's last mark
pub is_out_of_range-joined : (xs ys : List Mark) → are_marks xs ≡ true → are_marks ys ≡ true
    → is_out_of_range (joined_marks xs ys) ≡ nat_lt greatest_measure ((last_mark xs).measure + ((last_mark ys).measure - (mark_at ys 0).measure))
is_out_of_range-joined xs ys h k =
    let b = in_bounds ys k in
    let l = line_from_are_marks xs h in
    let m = line_from_are_marks ys k in
    let above : Mark → Bool = λ m. nat_lt greatest_measure m.measure in
    let f : Mark → Mark = moved_on (last_mark xs) (first_mark ys) in
    let e : (last_mark ys).measure ≡ (mark_at ys (length ys - 1)).measure = ap (λ (m : Mark). m.measure) (last_mark_is ys b.some) in
    let s : (first_mark ys).measure ≡ (mark_at ys 0).measure = ap (λ (m : Mark). m.measure) (first_mark_is ys) in
    let up = b.above (length ys - 1) (omega (arith, b.some)) in
    let place : mark_at (drop 1 ys) (length ys - 2) ≡ mark_at ys (length ys - 1) = get_or-drop 1 ys (length ys - 2) no_mark ∙ ap (mark_at ys) (omega (arith, m.enough)) in
    let split : is_out_of_range (joined_marks xs ys) ≡ (list_any above xs || list_any above (map f (drop 1 ys))) = list_any-append above xs (map f (drop 1 ys)) in
    ⊎_elim
    (λ (high : greatest_measure < (last_mark xs).measure + ((last_mark ys).measure - (mark_at ys 0).measure)).
    split ∙ or_right _ _ (list_any_mapped above f (drop 1 ys) ∙ list_any_at (λ (m : Mark). above (f m)) (drop 1 ys) (length ys - 2) no_mark (omega (arith, length-drop 1 ys, m.enough))
    (rw place (lt-ltb _ _ (omega (arith, high, e, s, up))))) ∙ sym (lt-ltb _ _ high))
    (λ (low : (last_mark xs).measure + ((last_mark ys).measure - (mark_at ys 0).measure) ≤ greatest_measure).
    split ∙ or_from _ _
    (list_any_none above xs (λ i d lt. rw (at_default xs i d lt) (le-ltb _ _ (l.small i lt))))
    (list_any_mapped above f (drop 1 ys) ∙ list_any_none (λ (m : Mark). above (f m)) (drop 1 ys) (λ i d lt.
    let in' : 1 + i < length ys = omega (arith, length-drop 1 ys) in
    let under = b.below (1 + i) in' in
    rw (get_or-drop 1 ys i d, at_default ys (1 + i) d in') (le-ltb _ _ (omega (arith, low, s, under, up, e)))))
    ∙ sym (le-ltb _ _ low))
    (cases_lt greatest_measure ((last_mark xs).measure + ((last_mark ys).measure - (mark_at ys 0).measure)))
