-- Lists of pieces: which one has a millimetre, and which one begins there.
use Rattle.std.proofs.Common.{ℕ, zero, suc, ◌≡◌, ◌<◌, ◌≤◌, if◌then◌else◌, Option, Some, None, Bool, true, false, List, [], ◌∷◌, ◌++◌, length, get_or, take, refl, sym, ap, subst, ◌∙◌, arith, ⊎_elim}
use Rattle.std.specs.Prelude.{◌||◌, not, nat_eq, is_some}
use Rattle.std.specs.List.{list_any, list_all, position, position_or_len, AllByRecursion}
use Rattle.std.specs.Ordering.{eq_by_cmp}
use Rattle.std.proofs.lemmas.Bool.{and_parts, and_from, or_cases, eq-eqb, eqb-true, ltb-false, both_ways, not-true, false_from_ne_true}
use Rattle.std.proofs.lemmas.List.Folds.{list_any-append, list_all-append, Any-from_list_any, list_any_at, list_any_none}
use Rattle.std.proofs.lemmas.List.Sums.{AllPass-from_list_all, fails_before_first}
use Rattle.std.proofs.lemmas.List.Elements.{All-from_recursion}
use Rattle.lrs_element.specs.declared.link.Piece.{Piece}
use Rattle.lrs_element.specs.declared.link.Ground.{Ground}
use Rattle.lrs_element.specs.Course.{Millimetre, expand, course_of, runs_over, is_at}
use Rattle.lrs_position.specs.Index.Ground.{Stretches, millimetre_cmp, is_shared, is_run_once, begins_at}
use Rattle.lrs_position.proofs.Index.Order.{tie, ties}
use Rattle.lrs_position.proofs.Index.Sharing.{same_test, is_taken}

-- an element that passes the test, with what is true of each
pub record Passing {X : Type 0} (test : X → Bool) (P : X → Type 0) (xs : List X) : Type 0 where
  pub place : ℕ
  pub it : X
  pub inside : place < length xs
  pub is : get_or xs place it ≡ it
  pub passes : test it ≡ true
  pub holds : P it

pub passing : {X : Type 0} (test : X → Bool) (P : X → Type 0) (xs : List X) → AllByRecursion P xs → list_any test xs ≡ true → Passing test P xs
passing test P xs h t =
    let a = Any-from_list_any test xs t in
    record { place = a.0; it = a.1; inside = a.2; is = a.3; passes = a.4; holds = subst P a.3 (All-from_recursion P xs h a.0 a.1 a.2) }

-- ---- courses

-- a test of a course, piece by piece
pub any_course : (test : Ground → Bool) (ps : List Piece) → list_any test (course_of ps) ≡ list_any (λ p. list_any test (expand p)) ps
any_course test [] = refl
any_course test (p ∷ ps) = list_any-append test (expand p) (course_of ps) ∙ ap (λ (b : Bool). list_any test (expand p) || b) (any_course test ps)

pub course_at : (test : Ground → Bool) (ps : List Piece) (i : ℕ) (d : Piece) → i < length ps → list_any test (expand (get_or ps i d)) ≡ true → list_any test (course_of ps) ≡ true
course_at test ps i d lt h = any_course test ps ∙ list_any_at (λ p. list_any test (expand p)) ps i d lt h

-- no piece passes
pub none_passes : {X : Type 0} (test : X → Bool) (xs : List X) → position test xs ≡ None → list_any test xs ≡ false
none_passes test xs h = list_any_none test xs (λ k d lt. fails_before_first test xs k d (let n = all_before in omega (arith, n)))
  where
    all_before : length xs ≤ position_or_len test xs
    all_before = ltb-false _ _ (false_from_ne_true _ (λ t. absurd (cc (sym (ap (λ (b : Bool). if b then Some (position_or_len test xs) else None) t) ∙ h))))

-- no piece shares ground
pub none_shared : (kept : Stretches) (ps : List Piece) (first : Option ℕ) → first ≡ position (λ p. is_shared kept (expand p)) ps → is_some first ≡ false → is_shared kept (course_of ps) ≡ false
none_shared kept ps None e h = any_course (λ g. is_taken kept (g.link, g.mm)) ps ∙ none_passes (λ p. is_shared kept (expand p)) ps (sym e)
none_shared kept ps (Some i) e h = absurd (cc h)

-- ---- where pieces begin

pub begins_is : (q : Millimetre) (p : Piece) → begins_at q p ≡ eq_by_cmp millimetre_cmp q (p.link, p.from)
begins_is q p = same_test _ _
    (λ t. let u = and_parts _ _ t in ties q (p.link, p.from) (λ i. (sym (eqb-true p.link q.0 u.0) i, sym (eqb-true p.from q.1 u.1) i)))
    (λ t. let e = tie q (p.link, p.from) t in and_from _ _ (eq-eqb _ _ (sym (ap (λ (x : Millimetre). x.0) e))) (eq-eqb _ _ (sym (ap (λ (x : Millimetre). x.1) e))))

pub begins_where : (q : Millimetre) (p : Piece) → begins_at q p ≡ true → q ≡ (p.link, p.from)
begins_where q p h = tie q (p.link, p.from) (sym (begins_is q p) ∙ h)

-- ---- no millimetre twice

abbrev pub differ : Ground → Ground → Bool
differ g h = not (is_at (g.link, g.mm) h)

-- two entries at one millimetre
same_place : (m : Millimetre) (g h : Ground) → is_at m g ≡ true → is_at m h ≡ true → differ g h ≡ true → ⊥
same_place m g h a b d =
    let u = and_parts _ _ a in
    let v = and_parts _ _ b in
    let l : g.link ≡ m.0 = eqb-true _ _ u.0 in
    let k : g.mm ≡ m.1 = eqb-true _ _ u.1 in
    let l' : h.link ≡ m.0 = eqb-true _ _ v.0 in
    let k' : h.mm ≡ m.1 = eqb-true _ _ v.1 in
    both_ways _ (not-true _ d) (and_from (nat_eq h.link g.link) (nat_eq h.mm g.mm) (eq-eqb _ _ (l' ∙ sym l)) (eq-eqb _ _ (k' ∙ sym k)))

pub among : (m : Millimetre) (g : Ground) (ys : List Ground) → is_at m g ≡ true → list_all (differ g) ys ≡ true → runs_over ys m ≡ true → ⊥
among m g ys a d r =
    let y = Any-from_list_any (is_at m) ys r in
    same_place m g y.1 a y.4 (ap (differ g) (sym y.3) ∙ AllPass-from_list_all (differ g) ys d y.0 y.1 y.2)

-- not in the front and again behind it
pub across : (m : Millimetre) (xs ys : List Ground) → is_run_once (xs ++ ys) ≡ true → runs_over xs m ≡ true → runs_over ys m ≡ true → ⊥
across m [] ys o r s = absurd (cc r)
across m (x ∷ xs) ys o r s =
    let u = and_parts (list_all (differ x) (xs ++ ys)) (is_run_once (xs ++ ys)) o in
    ⊎_elim
    (λ (h : is_at m x ≡ true). among m x ys h (and_parts (list_all (differ x) xs) (list_all (differ x) ys) (sym (list_all-append (differ x) xs ys) ∙ u.0)).1 s)
    (λ (t : runs_over xs m ≡ true). across m xs ys u.1 t s)
    (or_cases (is_at m x) (runs_over xs m) r)

pub behind : (xs ys : List Ground) → is_run_once (xs ++ ys) ≡ true → is_run_once ys ≡ true
behind [] ys o = o
behind (x ∷ xs) ys o = behind xs ys (and_parts (list_all (differ x) (xs ++ ys)) (is_run_once (xs ++ ys)) o).1

-- a piece has no millimetre of one before it
pub once_only : (ps : List Piece) (i : ℕ) (d : Piece) (m : Millimetre) → is_run_once (course_of ps) ≡ true → i < length ps → runs_over (course_of (take i ps)) m ≡ true → runs_over (expand (get_or ps i d)) m ≡ true → ⊥
once_only [] i d m o lt r s = absurd (omega arith)
once_only (p ∷ ps) zero d m o lt r s = absurd (cc r)
once_only (p ∷ ps) (suc i) d m o lt r s =
    ⊎_elim
    (λ (h : runs_over (expand p) m ≡ true). across m (expand p) (course_of ps) o h (course_at (is_at m) ps i d (omega arith) s))
    (λ (t : runs_over (course_of (take i ps)) m ≡ true). once_only ps i d m (behind (expand p) (course_of ps) o) (omega arith) t s)
    (or_cases (runs_over (expand p) m) (runs_over (course_of (take i ps)) m) (sym (list_any-append (is_at m) (expand p) (course_of (take i ps))) ∙ r))
