use Rattle.std.proofs.Common.{ℕ, zero, suc, ◌≡◌, ◌+◌, ◌-◌, ◌*◌, ◌<◌, ◌≤◌, sym, ◌∙◌, ap, refl, subst, arith, ℤ, pos, negsuc, ◌*ℤ◌, unsigned_abs, Bool, true, false, cond, nat_lt, List, [], ◌∷◌, length, get_or, slice_get, Option, Some, None, is_none, IsTrue, inl, inr, ◌⊎◌}
use Rattle.std.specs.List.{AllAdjacentBelow}
use Rattle.std.specs.List.Sorted.{IsNonDecreasingBy}
use Rattle.std.specs.Option.{option_map, IsSomeAnd, IsSome, IfSome}
use Rattle.std.proofs.Math.Nat.{mul-le-mul_right, mul-pos, le_of_mul-le-mul_right, le_trans}
use Rattle.std.proofs.lemmas.Nat.{mul-le}
use Rattle.std.proofs.lemmas.Int.{ints}
use Rattle.std.proofs.lemmas.Bool.{or_parts, not-false, and_parts, ltb-true, ltb-false, eqb-true}
use Rattle.std.proofs.lemmas.Option.{get_or_from_slice_get, slice_get_within}
use Rattle.lrs_element.specs.declared.marks.Mark.{Mark}
use Rattle.lrs_measure.specs.Limits.{most_marks}
use Rattle.lrs_element.specs.Marks.{no_mark, last_of, first_mark, last_mark, is_out_of_order, misses_the_end, first_bad_mark, bad_mark, are_marks, IsBetween, IsOnLine}
use Rattle.lrs_element.specs.Line.{Rises, IsFirstFrom, AreAt, AreRound, IsOutside, IsReadable, HasMeasure, chainage_of, measure_of}
use Rattle.lrs_measure.specs.Fraction.{Fraction, IsQuotient}

-- ---- what the rules of marks give

-- each mark follows the one before it, is within the limit, and ends the list at the length
abbrev pub Follow : ℕ → Option Mark → List Mark → Type 0
Follow len before [] = Unit {0}
Follow len before (m ∷ rest) = (is_out_of_order before m ≡ false) × (m.measure ≤ 100_000_000_000) × (misses_the_end len m rest ≡ false) × Follow len (Some m) rest

-- no bad mark here, and none behind
none_further : (b : Bool) (o : Option ℕ) → is_none (cond b (Some 0) (option_map (λ i. i + 1) o)) ≡ true → (b ≡ false) × (is_none o ≡ true)
none_further true o h = absurd (cc h)
none_further false None h = (refl, refl)
none_further false (Some x) h = absurd (cc h)

pub Follow-from_none : (len : ℕ) (before : Option Mark) (marks : List Mark) → is_none (first_bad_mark len before marks) ≡ true → Follow len before marks
Follow-from_none len before [] h = tt
Follow-from_none len before (m ∷ rest) h =
    let n = none_further _ _ h in
    let a = or_parts _ _ n.0 in
    let b = or_parts _ _ a.0 in
    (b.0, ltb-false _ _ b.1, a.1, Follow-from_none len (Some m) rest n.1)

-- two or more marks, each of which keeps the rules
pub record KeepRules (len : ℕ) (marks : List Mark) : Type 0 where
  pub two : 2 ≤ length marks
  pub follow : Follow len None marks

pub KeepRules-from_none : (len : ℕ) (marks : List Mark) → is_none (bad_mark len marks) ≡ true → KeepRules len marks
KeepRules-from_none len marks h = apart (nat_lt (length marks) 2) (nat_lt most_marks (length marks)) (first_bad_mark len None marks) refl refl h
  where
    apart : (few many : Bool) (o : Option ℕ) → nat_lt (length marks) 2 ≡ few → first_bad_mark len None marks ≡ o → is_none (cond few (Some 0) (cond many (Some most_marks) o)) ≡ true → KeepRules len marks
    apart true many o e f h = absurd (cc h)
    apart false true o e f h = absurd (cc h)
    apart false false o e f h = record { two = ltb-false _ _ e; follow = Follow-from_none len None marks (ap is_none f ∙ h) }

pub rises_next : (p q : Mark) → is_out_of_order (Some p) q ≡ false → Rises p q
rises_next p q h =
    let b = and_parts _ _ (not-false _ h) in
    record { chainage = ltb-true _ _ b.0; measure = ltb-true _ _ b.1 }

rising_from : (len : ℕ) (before : Option Mark) (marks : List Mark) → Follow len before marks → (k : ℕ) (z : Mark) → suc k < length marks → Rises (get_or marks k z) (get_or marks (suc k) z)
rising_from len before [] h k z l = absurd (omega arith)
rising_from len before (p ∷ []) h k z l = absurd (omega arith)
rising_from len before (p ∷ q ∷ rest) h zero z l = rises_next p q h.3.0
rising_from len before (p ∷ q ∷ rest) h (suc k) z l = rising_from len (Some p) (q ∷ rest) h.3 k z (omega arith)

pub rising : (len : ℕ) (marks : List Mark) → KeepRules len marks → AllAdjacentBelow Rises marks (length marks)
rising len marks h k z l = let e : k + 1 ≡ suc k = omega arith in rw e (rising_from len None marks h.follow k z (omega arith))

measures_from : (len : ℕ) (before : Option Mark) (marks : List Mark) → Follow len before marks → (k : ℕ) (z : Mark) → k < length marks → (get_or marks k z).measure ≤ 100_000_000_000
measures_from len before [] h k z l = absurd (omega arith)
measures_from len before (p ∷ rest) h zero z l = h.1
measures_from len before (p ∷ rest) h (suc k) z l = measures_from len (Some p) rest h.3 k z (omega arith)

pub measure_limit : (len : ℕ) (marks : List Mark) → KeepRules len marks → (k : ℕ) (z : Mark) → k < length marks → (get_or marks k z).measure ≤ 100_000_000_000
measure_limit len marks h = measures_from len None marks h.follow

-- the last mark is the one at the end of the list
last_of-get_or : (p : Mark) (rest : List Mark) (z : Mark) → last_of p rest ≡ get_or (p ∷ rest) (length rest) z
last_of-get_or p [] z = refl
last_of-get_or p (q ∷ rest) z = last_of-get_or q rest z

pub last_mark-get_or : (marks : List Mark) (k : ℕ) (z : Mark) → k + 1 ≡ length marks → last_mark marks ≡ get_or marks k z
last_mark-get_or [] k z e = absurd (omega arith)
last_mark-get_or (p ∷ rest) k z e = let k_is : k ≡ length rest = omega arith in rw k_is (last_of-get_or p rest z)

pub first_mark-get_or : (marks : List Mark) (z : Mark) → 0 < length marks → first_mark marks ≡ get_or marks 0 z
first_mark-get_or [] z h = absurd (omega arith)
first_mark-get_or (p ∷ rest) z h = refl

-- the marks end at the length
ends_from : (len : ℕ) (before : Option Mark) (p : Mark) (rest : List Mark) → Follow len before (p ∷ rest) → (last_of p rest).chainage ≡ len
ends_from len before p [] h = eqb-true _ _ (not-false _ h.2)
ends_from len before p (q ∷ rest) h = ends_from len (Some p) q rest h.3

pub ends_at : (len : ℕ) (marks : List Mark) → KeepRules len marks → (last_mark marks).chainage ≡ len
ends_at len [] h = absurd (let t = h.two in omega arith)
ends_at len (p ∷ rest) h = ends_from len None p rest h.follow

-- the marks start at 0
pub starts_at : (len : ℕ) (marks : List Mark) → KeepRules len marks → (first_mark marks).chainage ≡ 0
starts_at len [] h = absurd (let t = h.two in omega arith)
starts_at len (p ∷ rest) h = eqb-true _ _ (not-false _ h.follow.0)

-- what rises from each mark to the next is not above its last value
no_fall : (place : Mark → ℕ) → ((p q : Mark) → Rises p q → place p < place q) → (marks : List Mark) → AllAdjacentBelow Rises marks (length marks) → (i m : ℕ) (z : Mark) → i + m < length marks → place (get_or marks i z) ≤ place (get_or marks (i + m) z)
no_fall place up marks r i zero z l = let e : i + 0 ≡ i = omega arith in rw e (omega arith)
no_fall place up marks r i (suc m) z l =
    let before : place (get_or marks i z) ≤ place (get_or marks (i + m) z) = no_fall place up marks r i m z (omega arith) in
    let next : place (get_or marks (i + m) z) < place (get_or marks (i + m + 1) z) = up _ _ (r (i + m) z (omega arith)) in
    let e : i + suc m ≡ i + m + 1 = omega arith in
    rw e (omega arith)

pub no_fall_to : (place : Mark → ℕ) → ((p q : Mark) → Rises p q → place p < place q) → (marks : List Mark) → AllAdjacentBelow Rises marks (length marks) → (i j : ℕ) (z : Mark) → i ≤ j → j < length marks → place (get_or marks i z) ≤ place (get_or marks j z)
no_fall_to place up marks r i j z h l = let e : i + (j - i) ≡ j = omega arith in let f = no_fall place up marks r i (j - i) z (omega arith) in rw e at f

-- ---- a straight line in naturals

-- v = (m w + a r) / w is m or more, and lies so far above m
line_apart : (k den w m a r : ℕ) → 0 < w → k * w ≡ (m * w + a * r) * den → (m * den ≤ k) × ((k - m * den) * w ≡ a * r * den)
line_apart k den w m a r p e =
    let le : m * den * w ≤ k * w = omega arith in
    let low : m * den ≤ k = le_of_mul-le-mul_right le p in
    let s : m * den + (k - m * den) ≡ k = omega arith in
    let g : (m * den + (k - m * den)) * w ≡ k * w = ap (λ (x : ℕ). x * w) s in
    (low, omega arith)

-- v = (m w + a r) / w is at most m + r where a is at most w
line_below : (k den w m a r : ℕ) → 0 < w → a ≤ w → k * w ≡ (m * w + a * r) * den → k ≤ (m + r) * den
line_below k den w m a r p h e =
    let b : a * (r * den) ≤ w * (r * den) = mul-le a (r * den) w (r * den) h (omega arith) in
    let g : k * w ≤ (m + r) * den * w = omega arith in
    le_of_mul-le-mul_right g p

-- the measure on the line from the chainage, and the chainage from the measure
pub IsBetween-from_measure : (p q : Mark) (x d n e : ℕ) → Rises p q → 0 < d → p.chainage * d ≤ x → x ≤ q.chainage * d
    → n * ((q.chainage - p.chainage) * d) ≡ (p.measure * ((q.chainage - p.chainage) * d) + (x - p.chainage * d) * (q.measure - p.measure)) * e
    → IsBetween p q x d n e
IsBetween-from_measure p q x d n e h dp f t eq =
    let vp : 0 < q.chainage - p.chainage = omega (arith, h.chainage) in
    let l = line_apart n e ((q.chainage - p.chainage) * d) p.measure (x - p.chainage * d) (q.measure - p.measure) (mul-pos vp dp) eq in
    let line : (n - p.measure * e) * ((q.chainage - p.chainage) * d) ≡ (x - p.chainage * d) * (q.measure - p.measure) * e = l.1 in
    record { from = f; to = t; above = l.0; line = sym (mul_assoc_of (n - p.measure * e) (q.chainage - p.chainage) d) ∙ line }
  where
    mul_assoc_of : (a b c : ℕ) → a * (b * c) ≡ a * b * c
    mul_assoc_of a b c = omega arith

pub IsBetween-from_chainage : (p q : Mark) (x d n e : ℕ) → Rises p q → 0 < e → p.measure * e ≤ n → n ≤ q.measure * e
    → x * ((q.measure - p.measure) * e) ≡ (p.chainage * ((q.measure - p.measure) * e) + (n - p.measure * e) * (q.chainage - p.chainage)) * d
    → IsBetween p q x d n e
IsBetween-from_chainage p q x d n e h ep f t eq =
    let rp : 0 < q.measure - p.measure = omega (arith, h.measure) in
    let w : ℕ = (q.measure - p.measure) * e in
    let l = line_apart x d w p.chainage (n - p.measure * e) (q.chainage - p.chainage) (mul-pos rp ep) eq in
    let s : p.chainage + (q.chainage - p.chainage) ≡ q.chainage = omega (arith, h.chainage) in
    let sm : p.measure + (q.measure - p.measure) ≡ q.measure = omega (arith, h.measure) in
    let gm : (p.measure + (q.measure - p.measure)) * e ≡ q.measure * e = ap (λ (k : ℕ). k * e) sm in
    let b : n - p.measure * e ≤ w = omega arith in
    let below : x ≤ (p.chainage + (q.chainage - p.chainage)) * d = line_below x d w p.chainage (n - p.measure * e) (q.chainage - p.chainage) (mul-pos rp ep) b eq in
    record { from = l.0; to = (let P : ℕ → Type 0 = λ k. x ≤ k * d in subst P s below); above = f; line = turn (n - p.measure * e) (q.chainage - p.chainage) (x - p.chainage * d) (q.measure - p.measure) l.1 }
  where
    turn : (v c u r : ℕ) → u * (r * e) ≡ v * c * d → v * c * d ≡ u * r * e
    turn v c u r k = sym k ∙ omega arith

-- what is between two neighbours is on the line
pub IsOnLine-from_neighbours : (marks : List Mark) (i : ℕ) (p q : Mark) (x m : ℕ × ℕ) → slice_get marks i ≡ Some p → slice_get marks (suc i) ≡ Some q → IsBetween p q x.0 x.1 m.0 m.1 → IsOnLine marks x m
IsOnLine-from_neighbours [] i p q x m f n b = absurd (cc f)
IsOnLine-from_neighbours (a ∷ []) i p q x m f n b = absurd (cc n)
IsOnLine-from_neighbours (a ∷ a' ∷ rest) zero p q x m f n b =
    let ep : p ≡ a = cc in
    let eq : q ≡ a' = cc in
    let P : Mark → Mark → Type 0 = λ s t. IsBetween s t x.0 x.1 m.0 m.1 in
    inl (subst (λ (t : Mark). P a t) eq (subst (λ (s : Mark). P s q) ep b))
IsOnLine-from_neighbours (a ∷ a' ∷ rest) (suc i) p q x m f n b = inr (IsOnLine-from_neighbours (a' ∷ rest) i p q x m f n b)

-- ---- the search among the marks

pub keep_rules : (marks : List Mark) → IsTrue (are_marks marks) → KeepRules (last_mark marks).chainage marks
keep_rules marks h = KeepRules-from_none (last_mark marks).chainage marks h

-- neither scale falls along the marks
pub scaled_in_order : (place : Mark → ℕ) → ((p q : Mark) → Rises p q → place p < place q) → (marks : List Mark) (d : ℕ) → IsTrue (are_marks marks) → IsNonDecreasingBy (λ (m : Mark). place m * d) marks
scaled_in_order place up marks d h i j z le l =
    mul-le-mul_right d (no_fall_to place up marks (rising _ marks (keep_rules marks h)) i j z le l)

-- the marks that stand there are round what the search was for
pub AreRound-from : (place : Mark → ℕ) → ((p q : Mark) → Rises p q → place p < place q) → (marks : List Mark) (n d k : ℕ) (p q : Mark) → IsTrue (are_marks marks) → (last_mark marks).chainage ≤ 10_000_000_000
    → IsFirstFrom place marks n d k → AreAt marks k p q → place p * d ≤ n → AreRound place marks n d p q
AreRound-from place up marks n d k p q h short f a low =
    let r = keep_rules marks h in
    let two = r.two in
    let here : get_or marks (a.index + 1) q ≡ q = get_or_from_slice_get marks (a.index + 1) q q a.next in
    let there : get_or marks a.index q ≡ p = get_or_from_slice_get marks a.index p q a.first in
    let within : a.index + 1 < length marks = slice_get_within marks (a.index + 1) q a.next in
    let k_le : k ≤ a.index + 1 = omega (arith, a.place) in
    let up_to : n ≤ place (get_or marks (a.index + 1) q) * d = f.after (a.index + 1) q k_le within in
    let rise : Rises (get_or marks a.index q) (get_or marks (a.index + 1) q) = rising _ marks r a.index q within in
    let limit : (get_or marks (a.index + 1) q).measure ≤ 100_000_000_000 = measure_limit _ marks r (a.index + 1) q within in
    let last_is : last_mark marks ≡ get_or marks (length marks - 1) q = last_mark-get_or marks (length marks - 1) q (omega arith) in
    let end : (get_or marks (a.index + 1) q).chainage ≤ (get_or marks (length marks - 1) q).chainage = no_fall_to chainage_of (λ s t g. g.chainage) marks (rising _ marks r) (a.index + 1) (length marks - 1) q (omega arith) (omega arith) in
    let last_place : (last_mark marks).chainage ≡ (get_or marks (length marks - 1) q).chainage = ap chainage_of last_is in
    let bound : (get_or marks (a.index + 1) q).chainage ≤ 10_000_000_000 = omega arith in
    let P : Mark → Type 0 = λ t. n ≤ place t * d in
    let R : Mark → Mark → Type 0 = λ s t. Rises s t in
    record {
      index = a.index;
      first = a.first;
      next = a.next;
      rise = subst (λ (s : Mark). Rises s q) there (subst (λ (t : Mark). Rises (get_or marks a.index q) t) here rise);
      limit = subst (λ (t : Mark). t.measure ≤ 100_000_000_000) here limit;
      end = subst (λ (t : Mark). t.chainage ≤ 10_000_000_000) here bound;
      from = low;
      to = subst P here up_to;
    }

-- where no marks stand there, the search went past the last one
pub IsOutside-none : (place : Mark → ℕ) (marks : List Mark) (n d k : ℕ) → IsTrue (are_marks marks) → IsFirstFrom place marks n d k → (length marks ≤ 1) ⊎ (k ≡ length marks) → IsOutside place marks n d
IsOutside-none place marks n d k h f (inl few) = let two = (keep_rules marks h).two in absurd (omega arith)
IsOutside-none place marks n d k h f (inr all) =
    let two = (keep_rules marks h).two in
    let last_is : last_mark marks ≡ get_or marks (length marks - 1) no_mark = last_mark-get_or marks (length marks - 1) no_mark (omega arith) in
    let below : place (get_or marks (length marks - 1) no_mark) * d < n = f.before (length marks - 1) no_mark (omega arith) in
    inr (rw last_is below)

-- where the first of them is above, it is the first of all
pub IsOutside-below : (place : Mark → ℕ) (marks : List Mark) (n d k : ℕ) (p q : Mark) → IsTrue (are_marks marks) → IsFirstFrom place marks n d k → AreAt marks k p q → n < place p * d → IsOutside place marks n d
IsOutside-below place marks n d zero p q h f a low =
    let two = (keep_rules marks h).two in
    let there : get_or marks a.index q ≡ p = get_or_from_slice_get marks a.index p q a.first in
    let zero_is : a.index ≡ 0 = omega (arith, a.place) in
    let first_is : first_mark marks ≡ get_or marks 0 q = first_mark-get_or marks q (omega arith) in
    let same : first_mark marks ≡ p = first_is ∙ ap (λ (i : ℕ). get_or marks i q) (sym zero_is) ∙ there in
    inl (rw same low)
IsOutside-below place marks n d (suc k) p q h f a low =
    let there : get_or marks a.index q ≡ p = get_or_from_slice_get marks a.index p q a.first in
    let before : place (get_or marks a.index q) * d < n = f.before a.index q (omega (arith, a.place)) in
    let below : place p * d < n = subst (λ (t : Mark). place t * d < n) there before in
    absurd (omega arith)

-- ---- limits of what is computed

width_bound : (a b d n : ℕ) → n ≤ b * d → a < b → n - a * d ≤ (b - a) * d
width_bound a b d n t r =
    let e : a + (b - a) ≡ b = omega arith in
    let g : (a + (b - a)) * d ≡ b * d = ap (λ (x : ℕ). x * d) e in
    omega arith

value_bound : (m w a r : ℕ) → a ≤ w → m * w + a * r ≤ (m + r) * w
value_bound m w a r h = let b : a * r ≤ w * r = mul-le a r w r h (omega arith) in omega arith

pub width_limit : (a b d : ℕ) → b ≤ 100_000_000_000 → d ≤ 10_000_000_000_000_000 → (b - a) * d ≤ 1_000_000_000_000_000_000_000_000_000
width_limit a b d hb hd = mul-le (b - a) d 100_000_000_000 10_000_000_000_000_000 (omega arith) hd

pub value_limit : (u v a b d n : ℕ) → n ≤ b * d → a < b → u < v → b ≤ 100_000_000_000 → v ≤ 100_000_000_000 → d ≤ 10_000_000_000_000_000
    → u * ((b - a) * d) + (n - a * d) * (v - u) ≤ 100_000_000_000_000_000_000_000_000_000_000_000_000
value_limit u v a b d n t ra ru hb hv hd =
    let e : u + (v - u) ≡ v = omega arith in
    let w : (b - a) * d ≤ 1_000_000_000_000_000_000_000_000_000 = width_limit a b d hb hd in
    let c : u * ((b - a) * d) + (n - a * d) * (v - u) ≤ (u + (v - u)) * ((b - a) * d) = value_bound u ((b - a) * d) (n - a * d) (v - u) (width_bound a b d n t ra) in
    let P : ℕ → Type 0 = λ x. u * ((b - a) * d) + (n - a * d) * (v - u) ≤ x * ((b - a) * d) in
    let l : v * ((b - a) * d) ≤ 100_000_000_000 * 1_000_000_000_000_000_000_000_000_000 = mul-le v ((b - a) * d) 100_000_000_000 1_000_000_000_000_000_000_000_000_000 hv w in
    le_trans (subst P e c) l

-- ---- what is computed is on the line

-- what lies between two neighbours lies within the marks
pub within_marks : (place : Mark → ℕ) → ((p q : Mark) → Rises p q → place p < place q) → (marks : List Mark) (n d : ℕ) (p q : Mark) → IsTrue (are_marks marks) → AreRound place marks n d p q
    → (place (first_mark marks) * d ≤ n) × (n ≤ place (last_mark marks) * d)
within_marks place up marks n d p q h a =
    let r = keep_rules marks h in
    let two = r.two in
    let rise = rising _ marks r in
    let within : a.index + 1 < length marks = slice_get_within marks (a.index + 1) q a.next in
    let here : get_or marks (a.index + 1) q ≡ q = get_or_from_slice_get marks (a.index + 1) q q a.next in
    let there : get_or marks a.index q ≡ p = get_or_from_slice_get marks a.index p q a.first in
    let first_is : first_mark marks ≡ get_or marks 0 q = first_mark-get_or marks q (omega arith) in
    let last_is : last_mark marks ≡ get_or marks (length marks - 1) q = last_mark-get_or marks (length marks - 1) q (omega arith) in
    let low : place (get_or marks 0 q) ≤ place (get_or marks a.index q) = no_fall_to place up marks rise 0 a.index q (omega arith) (omega arith) in
    let high : place (get_or marks (a.index + 1) q) ≤ place (get_or marks (length marks - 1) q) = no_fall_to place up marks rise (a.index + 1) (length marks - 1) q (omega arith) (omega arith) in
    let low_is : place (first_mark marks) ≤ place p = subst (λ (t : Mark). place (first_mark marks) ≤ place t) there (rw first_is low) in
    let high_is : place q ≤ place (last_mark marks) = subst (λ (t : Mark). place t ≤ place (last_mark marks)) here (rw last_is high) in
    let from : place (first_mark marks) * d ≤ place p * d = mul-le-mul_right d low_is in
    let to : place q * d ≤ place (last_mark marks) * d = mul-le-mul_right d high_is in
    (le_trans from a.from, le_trans a.to to)

-- an integer with a natural multiple is a natural
pub natural_from_product : (z : ℤ) (w k : ℕ) → 0 < w → z *ℤ pos w ≡ pos k → z ≡ pos (unsigned_abs z)
natural_from_product (pos n) w k p e = refl
natural_from_product (negsuc n) w k p e = let q : 0 < suc n * w = grind arith in omega (arith, ints)

-- the natural numerator of a fraction with a natural value
pub natural_quotient : (v : Fraction) (n w : ℕ) → 0 < w → IsQuotient v (pos n) w → (v.num ≡ pos (unsigned_abs v.num)) × (unsigned_abs v.num * w ≡ n * v.den)
natural_quotient v n w p e =
    let is : v.num ≡ pos (unsigned_abs v.num) = natural_from_product v.num w (n * v.den) p e in
    let f : pos (unsigned_abs v.num) *ℤ pos w ≡ pos (n * v.den) = rw is at e in
    (is, omega (arith, ints))

pub HasMeasure-from_measure : (marks : List Mark) (p q : Mark) (c v : Fraction) (n d : ℕ) → c.num ≡ pos n → c.den ≡ d → 0 < d → AreRound chainage_of marks n d p q
    → IsQuotient v (pos (p.measure * ((q.chainage - p.chainage) * d) + (n - p.chainage * d) * (q.measure - p.measure))) ((q.chainage - p.chainage) * d)
    → HasMeasure marks c v
HasMeasure-from_measure marks p q c v n d cn cd dp a e =
    let rc = a.rise.chainage in
    let wp : 0 < q.chainage - p.chainage = omega arith in
    let k = natural_quotient v _ _ (mul-pos wp dp) e in
    let b : IsBetween p q n d (unsigned_abs v.num) v.den = IsBetween-from_measure p q n d (unsigned_abs v.num) v.den a.rise dp a.from a.to k.1 in
    let next : slice_get marks (suc a.index) ≡ Some q = (let s : a.index + 1 ≡ suc a.index = omega arith in rw s at a.next) in
    let l : IsOnLine marks (n, d) (unsigned_abs v.num, v.den) = IsOnLine-from_neighbours marks a.index p q (n, d) (unsigned_abs v.num, v.den) a.first next b in
    record { along = n; reading = unsigned_abs v.num; chainage = cn; measure = k.0; line = (let P : ℕ → Type 0 = λ x. IsOnLine marks (n, x) (unsigned_abs v.num, v.den) in subst P (sym cd) l) }

pub HasMeasure-from_chainage : (marks : List Mark) (p q : Mark) (m v : Fraction) (n d : ℕ) → m.num ≡ pos n → m.den ≡ d → 0 < d → AreRound measure_of marks n d p q
    → IsQuotient v (pos (p.chainage * ((q.measure - p.measure) * d) + (n - p.measure * d) * (q.chainage - p.chainage))) ((q.measure - p.measure) * d)
    → HasMeasure marks v m
HasMeasure-from_chainage marks p q m v n d mn md dp a e =
    let rm = a.rise.measure in
    let wp : 0 < q.measure - p.measure = omega arith in
    let k = natural_quotient v _ _ (mul-pos wp dp) e in
    let b : IsBetween p q (unsigned_abs v.num) v.den n d = IsBetween-from_chainage p q (unsigned_abs v.num) v.den n d a.rise dp a.from a.to k.1 in
    let next : slice_get marks (suc a.index) ≡ Some q = (let s : a.index + 1 ≡ suc a.index = omega arith in rw s at a.next) in
    let l : IsOnLine marks (unsigned_abs v.num, v.den) (n, d) = IsOnLine-from_neighbours marks a.index p q (unsigned_abs v.num, v.den) (n, d) a.first next b in
    record { along = unsigned_abs v.num; reading = n; chainage = k.0; measure = mn; line = (let P : ℕ → Type 0 = λ x. IsOnLine marks (unsigned_abs v.num, v.den) (n, x) in subst P (sym md) l) }

pub IsReadable-from : (first last : ℕ) (q : Fraction) (n d : ℕ) → q.num ≡ pos n → q.den ≡ d → q.den ≤ 10_000_000_000_000_000 → (first * d ≤ n) × (n ≤ last * d) → IsReadable first last q
IsReadable-from first last q n d qn qd fine w = let f : first * d ≤ n = w.0 in let t : n ≤ last * d = w.1 in record { fine = fine; from = rw (qn, qd) (omega (arith, ints)); to = rw (qn, qd) (omega (arith, ints)) }

pub IsSome-from_and : {X : Type 0} (o : Option X) (P : X → Type 0) → IsSomeAnd o P → IsSome o
IsSome-from_and None P h = absurd h
IsSome-from_and (Some x) P h = refl

pub IfSome-from_and : {X : Type 0} (o : Option X) (P Q : X → Type 0) → IsSomeAnd o P → ((x : X) → P x → Q x) → IfSome o Q
IfSome-from_and None P Q h f = absurd h
IfSome-from_and (Some x) P Q h f = f x h
