-- Courses that run over each of their millimetres once, in parts and in another order.
use Rattle.std.proofs.Common.{ℕ, ◌≡◌, ◌+◌, ◌<◌, ◌≤◌, Bool, true, false, cond, List, [], ◌∷◌, ◌++◌, refl, sym, ap, ◌∙◌, arith, ⊎_elim, zero-add}
use Rattle.std.specs.Prelude.{◌||◌, nat_lt, nat_eq}
use Rattle.std.specs.List.{list_all, count_by}
use Rattle.std.proofs.lemmas.Bool.{cases_Bool, cases_lt, or_parts, eqb-true, and_parts, and_from, both_ways, false_from_ne_true, lt-ltb, ltb-true, eq-eqb, not_from_false}
use Rattle.std.proofs.lemmas.List.Folds.{Any-from_list_any, list_any_at}
use Rattle.std.proofs.lemmas.List.Sums.{sum_by-cons, sum_by-append}
use Rattle.lrs_element.specs.declared.link.Ground.{Ground}
use Rattle.lrs_element.specs.Course.{Millimetre, runs_over, meets, is_at}
use Rattle.lrs_position.specs.Index.Ground.{Stretches, is_shared, is_run_once}
use Rattle.lrs_position.proofs.Index.Pieces.{differ, among, across}
use Rattle.lrs_position.proofs.Index.Sharing.{is_taken}

-- how often a course runs over a millimetre
abbrev pub times : Millimetre → List Ground → ℕ
times m xs = count_by (is_at m) xs

abbrev weight : Bool → ℕ
weight b = cond b 1 0

counted : (b : Bool) → b ≡ true → weight b ≡ 1
counted b h = ap weight h

uncounted : (b : Bool) → b ≡ false → weight b ≡ 0
uncounted b h = ap weight h

times-cons : (m : Millimetre) (x : Ground) (xs : List Ground) → times m (x ∷ xs) ≡ weight (is_at m x) + times m xs
times-cons m x xs = sum_by-cons (λ g. weight (is_at m g)) x xs

pub times-append : (m : Millimetre) (xs ys : List Ground) → times m (xs ++ ys) ≡ times m xs + times m ys
times-append m xs ys = sum_by-append (λ g. weight (is_at m g)) xs ys

pub runs_is : (m : Millimetre) (xs : List Ground) → runs_over xs m ≡ nat_lt 0 (times m xs)
runs_is m [] = refl
runs_is m (x ∷ xs) = by (is_at m x) (times m xs) (runs_over xs m) (runs_is m xs) ∙ ap (nat_lt 0) (sym (times-cons m x xs))
  where
    by : (b : Bool) (n : ℕ) (r : Bool) → r ≡ nat_lt 0 n → (b || r) ≡ nat_lt 0 (weight b + n)
    by true n r e = sym (lt-ltb 0 (1 + n) (omega arith))
    by false n r e = e ∙ ap (nat_lt 0) (sym (zero-add n))

-- courses that run as often over a millimetre
pub runs_alike : (m : Millimetre) (xs ys : List Ground) → times m xs ≡ times m ys → runs_over xs m ≡ runs_over ys m
runs_alike m xs ys e = runs_is m xs ∙ ap (nat_lt 0) e ∙ sym (runs_is m ys)

not_over : (m : Millimetre) (xs : List Ground) → runs_over xs m ≡ false → times m xs ≡ 0
not_over m xs h = by (times m xs) (sym (runs_is m xs) ∙ h)
  where
    by : (n : ℕ) → nat_lt 0 n ≡ false → n ≡ 0
    by n h = ⊎_elim (λ (lt : 0 < n). absurd (both_ways _ h (lt-ltb 0 n lt))) (λ (le : n ≤ 0). omega arith) (cases_lt 0 n)

-- an entry at the millimetre differs from all behind it
at_front : (m : Millimetre) (x : Ground) (xs : List Ground) → is_at m x ≡ true → list_all (differ x) xs ≡ true → runs_over xs m ≡ false
at_front m x xs a d = false_from_ne_true _ (λ t. absurd (among m x xs a d t))

pub once_times : (m : Millimetre) (xs : List Ground) → is_run_once xs ≡ true → times m xs ≤ 1
once_times m [] h = omega arith
once_times m (x ∷ xs) h =
    let u = and_parts (list_all (differ x) xs) (is_run_once xs) h in
    let c = times-cons m x xs in
    ⊎_elim
    (λ (t : is_at m x ≡ true).
    let n = not_over m xs (at_front m x xs t u.0) in
    let k = counted (is_at m x) t in
    omega (arith, c, n, k))
    (λ (f : is_at m x ≡ false).
    let r = once_times m xs u.1 in
    let k = uncounted (is_at m x) f in
    omega (arith, c, r, k))
    (cases_Bool (is_at m x))

all_differ : (x : Ground) (xs : List Ground) → runs_over xs (x.link, x.mm) ≡ false → list_all (differ x) xs ≡ true
all_differ x [] h = refl
all_differ x (y ∷ ys) h =
    let o = or_parts (is_at (x.link, x.mm) y) (runs_over ys (x.link, x.mm)) h in
    and_from (differ x y) (list_all (differ x) ys) (not_from_false _ o.0) (all_differ x ys o.1)

pub times_once : (xs : List Ground) → ((m : Millimetre) → times m xs ≤ 1) → is_run_once xs ≡ true
times_once [] h = refl
times_once (x ∷ xs) h =
    and_from (list_all (differ x) xs) (is_run_once xs)
    (all_differ x xs (false_from_ne_true _ (λ t.
    let here : is_at (x.link, x.mm) x ≡ true = and_from (nat_eq x.link x.link) (nat_eq x.mm x.mm) (eq-eqb x.link x.link refl) (eq-eqb x.mm x.mm refl) in
    let k = counted (is_at (x.link, x.mm) x) here in
    let c = times-cons (x.link, x.mm) x xs in
    let n : 0 < times (x.link, x.mm) xs = ltb-true _ _ (sym (runs_is (x.link, x.mm) xs) ∙ t) in
    let le = h (x.link, x.mm) in
    absurd (omega (arith, c, k, n, le)))))
    (times_once xs (λ m. let c = times-cons m x xs in let le = h m in omega (arith, c, le)))

pub front : (xs ys : List Ground) → is_run_once (xs ++ ys) ≡ true → is_run_once xs ≡ true
front xs ys h = times_once xs (λ m. let c = times-append m xs ys in let le = once_times m (xs ++ ys) h in omega (arith, c, le))

-- two courses that run over one millimetre
pub common : (xs ys : List Ground) (m : Millimetre) → runs_over xs m ≡ true → runs_over ys m ≡ true → meets xs ys ≡ true
common xs ys m t r =
    let a = Any-from_list_any (is_at m) xs t in
    let u = and_parts (nat_eq a.1.link m.0) (nat_eq a.1.mm m.1) a.4 in
    list_any_at (λ g. runs_over ys (g.link, g.mm)) xs a.0 a.1 a.2
    (ap (λ (g : Ground). runs_over ys (g.link, g.mm)) a.3
    ∙ ap (λ (q : Millimetre). runs_over ys q) (λ i. (eqb-true a.1.link m.0 u.0 i, eqb-true a.1.mm m.1 u.1 i)) ∙ r)

-- two courses of which the second one runs over nothing of the first
pub once_both : (xs ys : List Ground) → is_run_once xs ≡ true → is_run_once ys ≡ true → meets xs ys ≡ false → is_run_once (xs ++ ys) ≡ true
once_both xs ys h k apart = times_once (xs ++ ys) (λ m.
    let c = times-append m xs ys in
    let a = once_times m xs h in
    let b = once_times m ys k in
    ⊎_elim
    (λ (t : runs_over xs m ≡ true).
    let n = not_over m ys (false_from_ne_true _ (λ r. absurd (both_ways _ apart (common xs ys m t r)))) in
    omega (arith, c, a, n))
    (λ (f : runs_over xs m ≡ false). let n = not_over m xs f in omega (arith, c, b, n))
    (cases_Bool (runs_over xs m)))

-- ---- what stretches hold, and what is put in behind it

pub free_behind : (kept : Stretches) (xs ys : List Ground) → ((m : Millimetre) → is_taken kept m ≡ runs_over xs m) → is_run_once (xs ++ ys) ≡ true → is_shared kept ys ≡ false
free_behind kept xs ys at once = false_from_ne_true _ (λ t.
    let a = Any-from_list_any (λ g. is_taken kept (g.link, g.mm)) ys t in
    let m : Millimetre = (a.1.link, a.1.mm) in
    let here : is_at m a.1 ≡ true = and_from (nat_eq a.1.link a.1.link) (nat_eq a.1.mm a.1.mm) (eq-eqb a.1.link a.1.link refl) (eq-eqb a.1.mm a.1.mm refl) in
    absurd (across m xs ys once (sym (at m) ∙ a.4) (list_any_at (is_at m) ys a.0 a.1 a.2 (ap (is_at m) a.3 ∙ here))))
