-- Which pieces have a millimetre in common.
use Rattle.std.proofs.Common.{ℕ, zero, suc, ◌≡◌, ◌≢◌, ◌+◌, ◌-◌, ◌<◌, ◌≤◌, Bool, true, false, if◌then◌else◌, List, [], ◌∷◌, ◌++◌, length, get_or, set, take, max, sym, ◌∙◌, ap, refl, subst, arith, ⊎_elim, ◌⊎◌, inl, inr, Some, None, Option}
use Rattle.std.specs.Bool.{OnTrue, OnFalse}
use Rattle.std.specs.Ordering.{nat_cmp, is_lt, ordering_then}
use Rattle.std.specs.Prelude.{nat_lt, nat_eq, ◌||◌, ◌&&◌, is_some, swap}
use Rattle.std.specs.Option.{option_map, IfNone, IfSome}
use Rattle.std.specs.List.{list_any, AllByRecursion, AllAdjacentBelow}
use Rattle.std.proofs.lemmas.Bool.Decides.{nat_tests}
use Rattle.std.specs.List.Sorted.{IsPermutation}
use Rattle.std.proofs.lemmas.Bool.{cases_lt, cases_eq, or_left, or_right, or_parts, or_from, and_left, and_right, le-ltb, and_parts, and_from, lt-ltb, ltb-true, eq-eqb, eqb-true, ne_eqb, false_from_ne_true, both_ways, OnTrue_at, OnFalse_at}
use Rattle.std.proofs.lemmas.List.{append_assoc, append-nil, length-append, length_push, get_or_append_left, get_or-append_right, get_or-set_same, get_or-set_other, length-set, get_or_default, take_more, take_all, nil_from_length}
use Rattle.std.proofs.lemmas.List.Edits.{swap_is}
use Rattle.std.proofs.lemmas.List.Sorted.{IsPermutation-keeps, IsPermutation-sym, All-permutation}
use Rattle.std.proofs.lemmas.List.Folds.{list_any-append, Any-from_list_any, list_any_at, list_any_none}
use Rattle.std.proofs.lemmas.List.Elements.{All-from_recursion, recursion_from_All, All-push}
use Rattle.lrs_element.specs.declared.link.Piece.{Piece}
use Rattle.lrs_element.specs.declared.link.Ground.{Ground}
use Rattle.lrs_element.specs.Course.{expand, course_of, is_at, runs_over, meets, share_link, first_repeated}
use Rattle.lrs_element.specs.Pieces.{ground_of, piece_len, pieces_meet, IsFilled, IsInOrder, lesser_link}
use Rattle.lrs_element.proofs.Expanding.{length-expand, get_or-expand}
use Rattle.lrs_element.proofs.Counting.{course_of-push}

-- ---- one piece and one millimetre

mm_bounds : (f : Bool) (a b i : ℕ) → i < b - a → (a ≤ (if f then a + i else b - 1 - i)) × ((if f then a + i else b - 1 - i) < b)
mm_bounds true a b i h = (omega arith, omega arith)
mm_bounds false a b i h = (omega arith, omega arith)

-- the place of a millimetre in a piece
place_of : (f : Bool) (a b m : ℕ) → a ≤ m → m < b → (i : ℕ) × (i < b - a) × ((if f then a + i else b - 1 - i) ≡ m)
place_of true a b m h l = (m - a, omega arith, omega arith)
place_of false a b m h l = (b - 1 - m, omega arith, omega arith)

runs_over_from : (p : Piece) (l m : ℕ) → p.link ≡ l → p.from ≤ m → m < p.to → runs_over (expand p) (l, m) ≡ true
runs_over_from p l m e h k =
    let i = place_of p.forward p.from p.to m h k in
    let g : Ground = ground_of p i.0 in
    list_any_at (is_at (l, m)) (expand p) i.0 g (omega (arith, length-expand p, i.1)) (ap (is_at (l, m)) (get_or-expand p i.0 g i.1) ∙ and_from _ _ (eq-eqb _ _ e) (eq-eqb _ _ i.2))

-- a millimetre of a piece
record IsOf (p : Piece) (g : Ground) : Type 0 where
  link : p.link ≡ g.link
  from : p.from ≤ g.mm
  to : g.mm < p.to

is_of : (p : Piece) (k : ℕ) (g : Ground) → k < length (expand p) → get_or (expand p) k g ≡ g → IsOf p g
is_of p k g h e =
    let i : k < piece_len p = omega (arith, length-expand p) in
    let s : g ≡ ground_of p k = sym e ∙ get_or-expand p k g i in
    let b = mm_bounds p.forward p.from p.to k i in
    let at : IsOf p (ground_of p k) = record { link = refl; from = b.0; to = b.1 } in
    subst (IsOf p) (sym s) at

runs_over_gives : (p : Piece) (l m : ℕ) → runs_over (expand p) (l, m) ≡ true → (p.link ≡ l) × (p.from ≤ m) × (m < p.to)
runs_over_gives p l m h =
    let a = Any-from_list_any (is_at (l, m)) (expand p) h in
    let o = is_of p a.0 a.1 a.2 a.3 in
    let t = and_parts _ _ a.4 in
    let el : a.1.link ≡ l = eqb-true _ _ t.0 in
    let em : a.1.mm ≡ m = eqb-true _ _ t.1 in
    (o.link ∙ el, omega (arith, o.from, em), omega (arith, o.to, em))

-- ---- two pieces

same_test : (x y : Bool) → (x ≡ true → y ≡ true) → (y ≡ true → x ≡ true) → x ≡ y
same_test true y f g = sym (f refl)
same_test false true f g = g refl
same_test false false f g = refl

pub meets_pieces : (p q : Piece) → IsFilled p → IsFilled q → meets (expand p) (expand q) ≡ pieces_meet p q
meets_pieces p q fp fq = same_test _ _
    (λ t.
    let a = Any-from_list_any (λ (g : Ground). runs_over (expand q) (g.link, g.mm)) (expand p) t in
    let o = is_of p a.0 a.1 a.2 a.3 in
    let r = runs_over_gives q a.1.link a.1.mm a.4 in
    and_from _ _ (and_from _ _ (eq-eqb _ _ (o.link ∙ sym r.0)) (lt-ltb _ _ (omega (arith, o.from, r.2)))) (lt-ltb _ _ (omega (arith, o.to, r.1))))
    (λ t.
    let u = and_parts _ _ t in
    let v = and_parts _ _ u.0 in
    let zp : p.from < p.to = fp in
    let zq : q.from < q.to = fq in
    let x : p.from < q.to = ltb-true _ _ v.1 in
    let y : q.from < p.to = ltb-true _ _ u.1 in
    let m : ℕ = max p.from q.from in
    let i = place_of p.forward p.from p.to m (omega arith) (omega arith) in
    let g : Ground = ground_of p i.0 in
    list_any_at (λ (g : Ground). runs_over (expand q) (g.link, g.mm)) (expand p) i.0 g (omega (arith, length-expand p, i.1))
    (ap (λ (w : Ground). runs_over (expand q) (w.link, w.mm)) (get_or-expand p i.0 g i.1) ∙ ap (λ (k : ℕ). runs_over (expand q) (p.link, k)) i.2
    ∙ runs_over_from q p.link m (sym (eqb-true _ _ v.0)) (omega arith) (omega arith)))

nat_eq-comm : (m n : ℕ) → nat_eq m n ≡ nat_eq n m
nat_eq-comm m n = same_test _ _ (λ t. eq-eqb _ _ (sym (eqb-true _ _ t))) (λ t. eq-eqb _ _ (sym (eqb-true _ _ t)))

and_swap : (x y z : Bool) → (x && y && z) ≡ (x && z && y)
and_swap true true true = refl
and_swap true true false = refl
and_swap true false true = refl
and_swap true false false = refl
and_swap false y z = refl

pub pieces_meet-comm : (p q : Piece) → pieces_meet p q ≡ pieces_meet q p
pieces_meet-comm p q = ap (λ (b : Bool). b && nat_lt p.from q.to && nat_lt q.from p.to) (nat_eq-comm p.link q.link) ∙ and_swap (nat_eq q.link p.link) (nat_lt p.from q.to) (nat_lt q.from p.to)

-- ---- courses

or_shuffle : (a b c d : Bool) → ((a || b) || (c || d)) ≡ ((a || c) || (b || d))
or_shuffle true b c d = refl
or_shuffle false true true d = refl
or_shuffle false true false d = refl
or_shuffle false false c d = refl

list_any_or : {X : Type 0} (f g : X → Bool) (xs : List X) → list_any (λ x. f x || g x) xs ≡ (list_any f xs || list_any g xs)
list_any_or f g [] = refl
list_any_or f g (x ∷ xs) = ap (λ (b : Bool). (f x || g x) || b) (list_any_or f g xs) ∙ or_shuffle (f x) (g x) (list_any f xs) (list_any g xs)

list_any_same : {X : Type 0} (f g : X → Bool) (xs : List X) → ((x : X) → f x ≡ g x) → list_any f xs ≡ list_any g xs
list_any_same f g [] h = refl
list_any_same f g (x ∷ xs) h = ap (λ (b : Bool). b || list_any f xs) (h x) ∙ ap (λ (b : Bool). g x || b) (list_any_same f g xs h)

list_any_never : {X : Type 0} (xs : List X) → list_any (λ x. false) xs ≡ false
list_any_never [] = refl
list_any_never (x ∷ xs) = list_any_never xs

meets-append_right : (xs ys zs : List Ground) → meets xs (ys ++ zs) ≡ (meets xs ys || meets xs zs)
meets-append_right xs ys zs =
    list_any_same (λ g. runs_over (ys ++ zs) (g.link, g.mm)) (λ g. runs_over ys (g.link, g.mm) || runs_over zs (g.link, g.mm)) xs (λ g. list_any-append (is_at (g.link, g.mm)) ys zs)
    ∙ list_any_or (λ g. runs_over ys (g.link, g.mm)) (λ g. runs_over zs (g.link, g.mm)) xs

pub meets_course : (p : Piece) (qs : List Piece) → IsFilled p → AllByRecursion IsFilled qs → meets (expand p) (course_of qs) ≡ list_any (pieces_meet p) qs
meets_course p [] fp f = list_any_never (expand p)
meets_course p (q ∷ qs) fp f =
    meets-append_right (expand p) (expand q) (course_of qs)
    ∙ ap (λ (b : Bool). b || meets (expand p) (course_of qs)) (meets_pieces p q fp f.0)
    ∙ ap (λ (b : Bool). pieces_meet p q || b) (meets_course p qs fp f.1)

-- ---- the first piece that shares a millimetre with one before it

-- ... by the pieces alone
abbrev pub repeated : List Piece → List Piece → Option ℕ
repeated done [] = None
repeated done (p ∷ ps) = if list_any (pieces_meet p) done then Some 0 else option_map (λ i. i + 1) (repeated (done ++ p ∷ []) ps)

filled_push : (done : List Piece) (p : Piece) → AllByRecursion IsFilled done → IsFilled p → AllByRecursion IsFilled (done ++ p ∷ [])
filled_push done p f fp = recursion_from_All IsFilled (done ++ p ∷ []) (All-push IsFilled done p (All-from_recursion IsFilled done f) fp)

pub first_repeated_is : (done ps : List Piece) → AllByRecursion IsFilled done → AllByRecursion IsFilled ps → first_repeated (course_of done) ps ≡ repeated done ps
first_repeated_is done [] f g = refl
first_repeated_is done (p ∷ ps) f g =
    ap (λ (b : Bool). if b then Some 0 else option_map (λ i. i + 1) (first_repeated (course_of done ++ expand p) ps)) (meets_course p done g.0 f)
    ∙ ap (λ (o : Option ℕ). if list_any (pieces_meet p) done then Some 0 else option_map (λ i. i + 1) o)
    (ap (λ (xs : List Ground). first_repeated xs ps) (sym (course_of-push done p)) ∙ first_repeated_is (done ++ p ∷ []) ps (filled_push done p f g.0) g.1)

repeat_test : (b : Bool) (o : Option ℕ) → (if b then Some 0 else option_map (λ i. i + 1) o) ≡ None → (b ≡ false) × (o ≡ None)
repeat_test true o h = absurd (cc h)
repeat_test false None h = (refl, refl)
repeat_test false (Some x) h = absurd (cc h)

none_test : (b : Bool) (o : Option ℕ) → b ≡ false → o ≡ None → (if b then Some 0 else option_map (λ i. i + 1) o) ≡ None
none_test b o e n = ap (λ (t : Bool). if t then Some 0 else option_map (λ i. i + 1) o) e ∙ ap (option_map (λ i. i + 1)) n

-- each from the n-th on shares none with those before it
pub record ApartFrom (n : ℕ) (xs : List Piece) : Type 0 where
  pub apart : (k j : ℕ) (d : Piece) → n ≤ j → k < j → j < length xs → pieces_meet (get_or xs j d) (get_or xs k d) ≡ false

list_any_false : (p : Piece → Bool) (xs : List Piece) (k : ℕ) (d : Piece) → list_any p xs ≡ false → k < length xs → p (get_or xs k d) ≡ false
list_any_false p xs k d h lt = false_from_ne_true _ (λ t. absurd (both_ways _ h (list_any_at p xs k d lt t)))

pub apart_from_none : (done ps : List Piece) → repeated done ps ≡ None → ApartFrom (length done) (done ++ ps)
apart_from_none done [] h = record { apart = λ k j d ge lt in'. absurd (let e : length (done ++ []) ≡ length done = ap length (append-nil done) in omega (arith, e)) }
apart_from_none done (p ∷ ps) h =
    let t = repeat_test (list_any (pieces_meet p) done) (repeated (done ++ p ∷ []) ps) h in
    let e : (done ++ p ∷ []) ++ ps ≡ done ++ p ∷ ps = append_assoc done (p ∷ []) ps in
    let rest : ApartFrom (length (done ++ p ∷ [])) (done ++ p ∷ ps) = rw (← e) (apart_from_none (done ++ p ∷ []) ps t.1) in
    record {
      apart = λ k j d ge lt in'. ⊎_elim
          (λ (later : length done < j). rest.apart k j d (omega (arith, length_push done p)) lt in')
          (λ (here : j ≤ length done).
          let z : j ≡ length done = omega arith in
          let at : get_or (done ++ p ∷ ps) j d ≡ p = get_or-append_right done (p ∷ ps) (length done) j d refl ge ∙ ap (λ (i : ℕ). get_or (p ∷ ps) i d) (let y : j - length done ≡ 0 = omega arith in y) in
          rw (at, get_or_append_left done (p ∷ ps) d k (omega arith)) (list_any_false (pieces_meet p) done k d t.0 (omega arith)))
          (cases_lt (length done) j);
    }

pub none_from_apart : (done ps : List Piece) → ApartFrom (length done) (done ++ ps) → repeated done ps ≡ None
none_from_apart done [] a = refl
none_from_apart done (p ∷ ps) a =
    let e : (done ++ p ∷ []) ++ ps ≡ done ++ p ∷ ps = append_assoc done (p ∷ []) ps in
    let n : length (done ++ p ∷ ps) ≡ length done + suc (length ps) = length-append done (p ∷ ps) in
    let rest : ApartFrom (length (done ++ p ∷ [])) ((done ++ p ∷ []) ++ ps) = rw e (record { apart = λ k j d ge lt in'. a.apart k j d (omega (arith, length_push done p)) lt in' }) in
    none_test _ _
    (list_any_none (pieces_meet p) done (λ k d lt.
    let at : get_or (done ++ p ∷ ps) (length done) d ≡ p = get_or-append_right done (p ∷ ps) (length done) (length done) d refl (omega arith) ∙ ap (λ (i : ℕ). get_or (p ∷ ps) i d) (let y : length done - length done ≡ 0 = omega arith in y) in
    rw (at, get_or_append_left done (p ∷ ps) d k lt) at (a.apart k (length done) d (omega arith) lt (omega (arith, n)))))
    (none_from_apart (done ++ p ∷ []) ps rest)

-- ---- in any order

-- no two share a millimetre
pub record AllApart (xs : List Piece) : Type 0 where
  pub apart : (i j : ℕ) (d : Piece) → i ≢ j → i < length xs → j < length xs → pieces_meet (get_or xs i d) (get_or xs j d) ≡ false

pub all_from_apart : (xs : List Piece) → ApartFrom 0 xs → AllApart xs
all_from_apart xs a = record {
  apart = λ i j d ne hi hj. ⊎_elim
      (λ (less : i < j). pieces_meet-comm (get_or xs i d) (get_or xs j d) ∙ a.apart i j d (omega arith) less hj)
      (λ (ge : j ≤ i). a.apart j i d (omega arith) (omega arith) hi)
      (cases_lt i j);
}

pub apart_from_all : (xs : List Piece) → AllApart xs → ApartFrom 0 xs
apart_from_all xs a = record { apart = λ k j d ge lt h. a.apart j k d (omega arith) h (omega arith) }

-- where an element stood before a swap
abbrev stood : ℕ → ℕ → ℕ → ℕ
stood i j k = if nat_eq k j then i else if nat_eq k i then j else k

record Stands (l : List Piece) (i j k : ℕ) (d : Piece) (m : ℕ) : Type 0 where
  within : m < length l
  is : get_or (swap l i j) k d ≡ get_or l m d
  moved : ((k ≡ j) × (m ≡ i)) ⊎ (((k ≢ j) × (k ≡ i) × (m ≡ j)) ⊎ ((k ≢ j) × (k ≢ i) × (m ≡ k)))

stands : (l : List Piece) (i j k : ℕ) (d : Piece) → i < length l → j < length l → k < length l → (m : ℕ) × Stands l i j k d m
stands l i j k d hi hj hk =
    let s : swap l i j ≡ set (set l i (get_or l j d)) j (get_or l i d) = sym (swap_is l i j d hi hj) in
    let n : length (set l i (get_or l j d)) ≡ length l = length-set l i (get_or l j d) in
    ⊎_elim
    (λ (same : k ≡ j). (i, record { within = hi; is = ap (λ (xs : List Piece). get_or xs k d) s ∙ ap (λ (q : ℕ). get_or (set (set l i (get_or l j d)) j (get_or l i d)) q d) same ∙ get_or-set_same (set l i (get_or l j d)) j (get_or l i d) d (omega (arith, n)); moved = inl (same, refl) }))
    (λ (other : k ≢ j). ⊎_elim
    (λ (first : k ≡ i). (j, record { within = hj; is = ap (λ (xs : List Piece). get_or xs k d) s ∙ get_or-set_other (set l i (get_or l j d)) j k (get_or l i d) d other ∙ ap (λ (q : ℕ). get_or (set l i (get_or l j d)) q d) first ∙ get_or-set_same l i (get_or l j d) d hi; moved = inr (inl (other, first, refl)) }))
    (λ (none : k ≢ i). (k, record { within = hk; is = ap (λ (xs : List Piece). get_or xs k d) s ∙ get_or-set_other (set l i (get_or l j d)) j k (get_or l i d) d other ∙ get_or-set_other l i k (get_or l j d) d none; moved = inr (inr (other, none, refl)) }))
    (cases_eq k i))
    (cases_eq k j)

AllApart-swap : (l : List Piece) (i j : ℕ) → i < length l → j < length l → AllApart l → AllApart (swap l i j)
AllApart-swap l i j hi hj a = record {
  apart = λ x y d ne hx hy.
      let s : swap l i j ≡ set (set l i (get_or l j d)) j (get_or l i d) = sym (swap_is l i j d hi hj) in
      let n : length (swap l i j) ≡ length l = ap length s ∙ length-set (set l i (get_or l j d)) j (get_or l i d) ∙ length-set l i (get_or l j d) in
      let p = stands l i j x d hi hj (omega (arith, n)) in
      let q = stands l i j y d hi hj (omega (arith, n)) in
      let mp = p.1.moved in
      let mq = q.1.moved in
      let apart' : p.0 ≢ q.0 = λ e. absurd (grind arith) in
      rw (p.1.is, q.1.is) (a.apart p.0 q.0 d apart' p.1.within q.1.within);
}

pub AllApart-permutation : (xs ys : List Piece) → IsPermutation xs ys → AllApart xs → AllApart ys
AllApart-permutation xs ys p a = IsPermutation-keeps xs AllApart a (λ l i j hi hj h. AllApart-swap l i j hi hj h) ys p

-- ---- sorted by link and start

-- p ends before q begins, or lies on a link before it
record IsBefore (p q : Piece) : Type 0 where
  link : p.link ≤ q.link
  behind : p.link ≡ q.link → p.to ≤ q.from

before_apart : (p q : Piece) → IsBefore p q → pieces_meet p q ≡ false
before_apart p q b = false_from_ne_true _ (λ t.
    let u = and_parts _ _ t in
    let v = and_parts _ _ u.0 in
    let e : p.link ≡ q.link = eqb-true _ _ v.0 in
    let h = b.behind e in
    let y : q.from < p.to = ltb-true _ _ u.1 in
    absurd (omega arith))

before_trans : (p q r : Piece) → IsFilled q → IsBefore p q → IsBefore q r → IsBefore p r
before_trans p q r f b c = record {
  link = omega (arith, b.link, c.link);
  behind = λ e.
      let z : q.from < q.to = f in
      let x = b.behind (omega (arith, b.link, c.link)) in
      let y = c.behind (omega (arith, b.link, c.link)) in
      omega (arith, x, y);
}

before_far : (xs : List Piece) (d : Piece) → AllByRecursion IsFilled xs → ((k : ℕ) → k + 1 < length xs → IsBefore (get_or xs k d) (get_or xs (k + 1) d)) → (i j : ℕ) → i < j → j < length xs → IsBefore (get_or xs i d) (get_or xs j d)
before_far xs d f step i zero lt h = absurd (omega arith)
before_far xs d f step i (suc j) lt h =
    let e : j + 1 ≡ suc j = omega arith in
    let P : ℕ → Type 0 = λ k. IsBefore (get_or xs j d) (get_or xs k d) in
    let last : IsBefore (get_or xs j d) (get_or xs (suc j) d) = subst P e (step j (omega arith)) in
    ⊎_elim
    (λ (less : i < j). before_trans _ (get_or xs j d) _ (All-from_recursion IsFilled xs f j d (omega arith)) (before_far xs d f step i j less (omega arith)) last)
    (λ (ge : j ≤ i). let s : j ≡ i = omega arith in let Q : ℕ → Type 0 = λ k. IsBefore (get_or xs k d) (get_or xs (suc j) d) in subst Q s last)
    (cases_lt i j)

-- neighbours in order that share nothing
before_from_order : (p q : Piece) → IsFilled p → IsFilled q → IsInOrder p q → pieces_meet p q ≡ false → IsBefore p q
before_from_order p q fp fq o a = record {
  link = o.link;
  behind = λ e. ⊎_elim
      (λ (lt : q.from < p.to). let z : q.from < q.to = fq in let s = o.start e in absurd (both_ways _ a (and_from _ _ (and_from _ _ (eq-eqb _ _ e) (lt-ltb _ _ (omega (arith, s, z)))) (lt-ltb _ _ lt))))
      (λ (ge : p.to ≤ q.from). ge)
      (cases_lt q.from p.to);
}

pub all_apart_sorted : (xs : List Piece) → AllByRecursion IsFilled xs → ((k : ℕ) (d : Piece) → k + 1 < length xs → IsInOrder (get_or xs k d) (get_or xs (k + 1) d))
    → ((k : ℕ) (d : Piece) → k + 1 < length xs → pieces_meet (get_or xs k d) (get_or xs (k + 1) d) ≡ false) → AllApart xs
all_apart_sorted xs f o a = all_from_apart xs (record {
  apart = λ k j d ge lt h.
      pieces_meet-comm (get_or xs j d) (get_or xs k d)
      ∙ before_apart _ _ (before_far xs d f (λ i l. before_from_order _ _ (All-from_recursion IsFilled xs f i d (omega arith)) (All-from_recursion IsFilled xs f (i + 1) d l) (o i d l) (a i d l)) k j lt h);
})

-- ---- the longest front without a repeat

is_some_test : (b : Bool) → is_some (if b then Some 0 else option_map (λ i. i + 1) None) ≡ true → b ≡ true
is_some_test true h = refl
is_some_test false h = absurd (cc h)

some_later : (o : Option ℕ) → is_some (option_map (λ i. i + 1) o) ≡ true → is_some o ≡ true
some_later None h = absurd (cc h)
some_later (Some x) h = refl

pub first_repeated_at : (before : List Ground) (n : ℕ) (ps : List Piece) → first_repeated before (take n ps) ≡ None → is_some (first_repeated before (take (suc n) ps)) ≡ true → first_repeated before ps ≡ Some n
first_repeated_at before zero [] h s = absurd (cc s)
first_repeated_at before (suc n) [] h s = absurd (cc s)
first_repeated_at before zero (p ∷ ps) h s = ap (λ (b : Bool). if b then Some 0 else option_map (λ i. i + 1) (first_repeated (before ++ expand p) ps)) (is_some_test (meets (expand p) before) s)
first_repeated_at before (suc n) (p ∷ ps) h s =
    let t = repeat_test (meets (expand p) before) (first_repeated (before ++ expand p) (take n ps)) h in
    let u : is_some (option_map (λ i. i + 1) (first_repeated (before ++ expand p) (take (suc n) ps))) ≡ true =
    ap (λ (b : Bool). is_some (if b then Some 0 else option_map (λ i. i + 1) (first_repeated (before ++ expand p) (take (suc n) ps)))) (sym t.0) ∙ s in
    ap (λ (b : Bool). if b then Some 0 else option_map (λ i. i + 1) (first_repeated (before ++ expand p) ps)) t.0
    ∙ ap (option_map (λ i. i + 1)) (first_repeated_at (before ++ expand p) n ps t.1 (some_later _ u))
    ∙ ap Some (omega arith)

-- ---- what the code finds

pub adjacent_found : (ps : List Piece) (i : ℕ) (e : Piece) → 1 ≤ i → i < length ps → pieces_meet (get_or ps (i - 1) e) (get_or ps i e) ≡ true
    → (k : ℕ) × (k + 1 < length ps) × ((d : Piece) → pieces_meet (get_or ps k d) (get_or ps (k + 1) d) ≡ true)
adjacent_found ps i e h lt t =
    let s : i - 1 + 1 ≡ i = omega arith in (
      i - 1,
      omega arith,
      λ d. ap (λ (p : Piece). pieces_meet p (get_or ps (i - 1 + 1) d)) (get_or_default ps (i - 1) d e (omega arith))
          ∙ ap (λ (k : ℕ). pieces_meet (get_or ps (i - 1) e) (get_or ps k d)) s ∙ ap (pieces_meet (get_or ps (i - 1) e)) (get_or_default ps i d e lt) ∙ t,
    )

pub adjacent_more : (ps : List Piece) (i : ℕ) (e : Piece) → 1 ≤ i → i < length ps → ((k : ℕ) (d : Piece) → k + 1 < i → k + 1 < length ps → pieces_meet (get_or ps k d) (get_or ps (k + 1) d) ≡ false)
    → pieces_meet (get_or ps (i - 1) e) (get_or ps i e) ≡ false → (k : ℕ) (d : Piece) → k + 1 < i + 1 → k + 1 < length ps → pieces_meet (get_or ps k d) (get_or ps (k + 1) d) ≡ false
adjacent_more ps i e h lt before here k d less in' = ⊎_elim
    (λ (earlier : k + 1 < i). before k d earlier in')
    (λ (ge : i ≤ k + 1).
    let a : k ≡ i - 1 = omega arith in
    let b : k + 1 ≡ i = omega arith in
    ap (λ (p : Piece). pieces_meet p (get_or ps (k + 1) d)) (get_or_default ps k d e (omega arith) ∙ ap (λ (j : ℕ). get_or ps j e) a)
    ∙ ap (λ (j : ℕ). pieces_meet (get_or ps (i - 1) e) (get_or ps j d)) b ∙ ap (pieces_meet (get_or ps (i - 1) e)) (get_or_default ps i d e lt) ∙ here)
    (cases_lt (k + 1) i)

repeat_answer_at : (o : Option ℕ) (b : Bool) → (b ≡ true → o ≡ None → ⊥) → (b ≡ false → o ≡ None) → b ≡ is_some o
repeat_answer_at None true f g = absurd (f refl refl)
repeat_answer_at None false f g = refl
repeat_answer_at (Some x) true f g = refl
repeat_answer_at (Some x) false f g = absurd (cc (g refl))

pub repeat_answer : (xs ys : List Piece) (b : Bool) → AllByRecursion IsFilled xs → IsPermutation xs ys → AllAdjacentBelow IsInOrder ys (length ys)
    → OnTrue b ((k : ℕ) × (k + 1 < length ys) × ((d : Piece) → pieces_meet (get_or ys k d) (get_or ys (k + 1) d) ≡ true))
    → OnFalse b ((k : ℕ) (d : Piece) → k + 1 < length ys → pieces_meet (get_or ys k d) (get_or ys (k + 1) d) ≡ false)
    → b ≡ is_some (first_repeated [] xs)
repeat_answer xs ys b f p o t u =
    let e : first_repeated [] xs ≡ repeated [] xs = first_repeated_is [] xs tt f in
    repeat_answer_at (first_repeated [] xs) b
    (λ is n.
    let a : AllApart ys = AllApart-permutation xs ys p (all_from_apart xs (apart_from_none [] xs (sym e ∙ n))) in
    let m = OnTrue_at is t in
    meets_some ys m.0 m.1 m.2 a)
    (λ is.
    let g : AllByRecursion IsFilled ys = recursion_from_All IsFilled ys (All-permutation IsFilled xs ys p (All-from_recursion IsFilled xs f)) in
    let a : AllApart ys = all_apart_sorted ys g o (OnFalse_at is u) in
    e ∙ none_from_apart [] xs (apart_from_all xs (AllApart-permutation ys xs (IsPermutation-sym xs ys p) a)))
  where
    meets_some : (ys : List Piece) (k : ℕ) → k + 1 < length ys → ((d : Piece) → pieces_meet (get_or ys k d) (get_or ys (k + 1) d) ≡ true) → AllApart ys → ⊥
    meets_some ys k h m a = let d : Piece = record { link = 0; from = 0; to = 0; forward = true } in both_ways _ (a.apart k (k + 1) d (omega arith) (omega arith) h) (m d)

-- the order of a sort by link and start
pub in_order : (p q : Piece) → is_lt (ordering_then (nat_cmp q.link p.link) (nat_cmp q.from p.from)) ≡ false → IsInOrder p q
in_order p q h = record { link = grind (arith, nat_tests); start = λ e. grind (arith, nat_tests) }

-- ---- the least link that two courses share

-- no link below it, and it if there is one
pub record IsLeastShared (xs ys : List Ground) (found : Option ℕ) : Type 0 where
  pub apart : IfNone found (meets xs ys ≡ false)
  pub shared : IfSome found (λ n. share_link xs ys n ≡ true)
  pub least : IfSome found (λ n. (m : ℕ) → m < n → share_link xs ys m ≡ false)

IsLeastShared-nil : (ys : List Ground) → IsLeastShared [] ys None
IsLeastShared-nil ys = record { apart = refl; shared = tt; least = tt }

-- a course that shares nothing shares no link
share_none : (xs ys : List Ground) (n : ℕ) → meets xs ys ≡ false → share_link xs ys n ≡ false
share_none [] ys n h = refl
share_none (x ∷ xs) ys n h =
    let t = or_parts _ _ h in
    or_from _ _ (and_right (nat_eq x.link n) _ t.0) (share_none xs ys n t.1)

share_link-append : (xs ys zs : List Ground) (n : ℕ) → share_link (xs ++ ys) zs n ≡ (share_link xs zs n || share_link ys zs n)
share_link-append xs ys zs n = list_any-append (λ g. nat_eq g.link n && runs_over zs (g.link, g.mm)) xs ys

meets-append_left : (xs ys zs : List Ground) → meets (xs ++ ys) zs ≡ (meets xs zs || meets ys zs)
meets-append_left xs ys zs = list_any-append (λ g. runs_over zs (g.link, g.mm)) xs ys

-- a piece shares no link but its own
share_own : (xs ys : List Ground) (l : ℕ) → ((k : ℕ) (d : Ground) → k < length xs → (get_or xs k d).link ≡ l) → share_link xs ys l ≡ meets xs ys
share_own [] ys l h = refl
share_own (x ∷ xs) ys l h =
    ap (λ (b : Bool). (b && runs_over ys (x.link, x.mm)) || share_link xs ys l) (eq-eqb _ _ (h 0 x (omega arith)))
    ∙ ap (λ (b : Bool). runs_over ys (x.link, x.mm) || b) (share_own xs ys l (λ k d lt. h (suc k) d (omega arith)))

share_other : (xs ys : List Ground) (l n : ℕ) → ((k : ℕ) (d : Ground) → k < length xs → (get_or xs k d).link ≡ l) → (l ≡ n → ⊥) → share_link xs ys n ≡ false
share_other [] ys l n h ne = refl
share_other (x ∷ xs) ys l n h ne =
    or_from _ _ (and_left _ (runs_over ys (x.link, x.mm)) (ne_eqb _ _ (λ e. ne (sym (h 0 x (omega arith)) ∙ e)))) (share_other xs ys l n (λ k d lt. h (suc k) d (omega arith)) ne)

link_of_piece : (p : Piece) (k : ℕ) (d : Ground) → k < length (expand p) → (get_or (expand p) k d).link ≡ p.link
link_of_piece p k d h = ap (λ (g : Ground). g.link) (get_or-expand p k d (omega (arith, length-expand p)))

-- one more piece that shares none
least_same : (xs ys : List Ground) (p : Piece) (least : Option ℕ) → IsLeastShared xs ys least → meets (expand p) ys ≡ false → IsLeastShared (xs ++ expand p) ys least
least_same xs ys p None h e = record { apart = meets-append_left xs (expand p) ys ∙ or_from _ _ h.apart e; shared = tt; least = tt }
least_same xs ys p (Some n) h e = record {
  apart = tt;
  shared = share_link-append xs (expand p) ys n ∙ or_left _ _ h.shared;
  least = λ m lt. share_link-append xs (expand p) ys m ∙ or_from _ _ (h.least m lt) (share_none (expand p) ys m e);
}

-- one more that shares some
least_lesser : (xs ys : List Ground) (p : Piece) (least : Option ℕ) → IsLeastShared xs ys least → meets (expand p) ys ≡ true → IsLeastShared (xs ++ expand p) ys (Some (lesser_link least p.link))
least_lesser xs ys p None h e = record {
  apart = tt;
  shared = share_link-append xs (expand p) ys p.link ∙ or_right _ _ (share_own (expand p) ys p.link (link_of_piece p) ∙ e);
  least = λ m lt. share_link-append xs (expand p) ys m ∙ or_from _ _ (share_none xs ys m h.apart) (share_other (expand p) ys p.link m (link_of_piece p) (λ q. absurd (omega arith)));
}
least_lesser xs ys p (Some n) h e = ⊎_elim
    (λ (less : n < p.link). rw (lt-ltb n p.link less) (record {
      apart = tt;
      shared = share_link-append xs (expand p) ys n ∙ or_left _ _ h.shared;
      least = λ m lt. share_link-append xs (expand p) ys m ∙ or_from _ _ (h.least m lt) (share_other (expand p) ys p.link m (link_of_piece p) (λ q. absurd (omega arith)));
    }))
    (λ (ge : p.link ≤ n). rw (le-ltb n p.link ge) (record {
      apart = tt;
      shared = share_link-append xs (expand p) ys p.link ∙ or_right _ _ (share_own (expand p) ys p.link (link_of_piece p) ∙ e);
      least = λ m lt. share_link-append xs (expand p) ys m ∙ or_from _ _ (h.least m (omega arith)) (share_other (expand p) ys p.link m (link_of_piece p) (λ q. absurd (omega arith)));
    }))
    (cases_lt n p.link)

pub least_start : (ps : List Piece) (ys : List Ground) → IsLeastShared (course_of (take 0 ps)) ys None
least_start ps ys = IsLeastShared-nil ys

course_more : (ps : List Piece) (i : ℕ) (d : Piece) → i < length ps → course_of (take (i + 1) ps) ≡ course_of (take i ps) ++ expand (get_or ps i d)
course_more ps i d h = ap course_of (take_more ps i d h) ∙ course_of-push (take i ps) (get_or ps i d)

pub least_step_same : (ps : List Piece) (i : ℕ) (d : Piece) (ys : List Ground) (least : Option ℕ) → i < length ps → IsLeastShared (course_of (take i ps)) ys least → meets (expand (get_or ps i d)) ys ≡ false → IsLeastShared (course_of (take (i + 1) ps)) ys least
least_step_same ps i d ys least h was e = rw (course_more ps i d h) (least_same (course_of (take i ps)) ys (get_or ps i d) least was e)

pub least_step_lesser : (ps : List Piece) (i : ℕ) (d : Piece) (ys : List Ground) (least : Option ℕ) → i < length ps → IsLeastShared (course_of (take i ps)) ys least → meets (expand (get_or ps i d)) ys ≡ true → IsLeastShared (course_of (take (i + 1) ps)) ys (Some (lesser_link least (get_or ps i d).link))
least_step_lesser ps i d ys least h was e = rw (course_more ps i d h) (least_lesser (course_of (take i ps)) ys (get_or ps i d) least was e)

pub least_end : (ps : List Piece) (i : ℕ) (xs ys : List Ground) (least : Option ℕ) → length ps ≤ i → course_of ps ≡ xs → IsLeastShared (course_of (take i ps)) ys least → IsLeastShared xs ys least
least_end ps i xs ys least h e was =
    let P : List Ground → Type 0 = λ w. IsLeastShared w ys least in
    subst P (ap course_of (take_all i ps h) ∙ e) was

-- ---- a piece and a course

meets_filled : (p : Piece) (qs : List Piece) (b : Bool) → p.from < p.to → AllByRecursion IsFilled qs → b ≡ list_any (pieces_meet p) qs → b ≡ meets (expand p) (course_of qs)
meets_filled p qs b h f e = e ∙ sym (meets_course p qs h f)

pub covers_some : (p : Piece) (qs : List Piece) (ys : List Ground) (b : Bool) → p.from < p.to → AllByRecursion IsFilled qs → course_of qs ≡ ys → b ≡ list_any (pieces_meet p) qs → b ≡ meets (expand p) ys
covers_some p qs ys b h f e is = meets_filled p qs b h f is ∙ ap (meets (expand p)) e

pub covers_none : (p : Piece) (ys : List Ground) → p.to ≤ p.from → false ≡ meets (expand p) ys
covers_none p ys h =
    let e : expand p ≡ [] = nil_from_length (expand p) (length-expand p ∙ omega arith) in
    sym (ap (λ (xs : List Ground). meets xs ys) e)
