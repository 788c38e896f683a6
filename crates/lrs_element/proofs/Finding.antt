-- Links by their numbers.
use Rattle.std.proofs.Common.{ℕ, zero, suc, ◌≡◌, ◌≢◌, ◌<◌, ◌≤◌, Bool, true, false, if◌then◌else◌, List, [], ◌∷◌, length, get_or, sym, ◌∙◌, ap, refl, arith, ⊎_elim, Some, None, Option, slice_get}
use Rattle.std.specs.Prelude.{not, ◌||◌, nat_eq, nat_lt, is_none, is_some, find, position, AllPairs}
use Rattle.std.specs.List.{list_any, position_or_len, AllByRecursion}
use Rattle.std.specs.List.Sorted.{IsNonDecreasingBy}
use Rattle.std.proofs.lemmas.Bool.{cases_lt, cases_eq, eq-eqb, ne_eqb, leb-false, ltb-false, ltb-true, and_parts, or_parts, false_from_ne_true}
use Rattle.std.proofs.lemmas.List.{get_or_default}
use Rattle.std.proofs.lemmas.Option.{slice_get-get_or, slice_get_past}
use Rattle.std.proofs.lemmas.List.Folds.{find_at}
use Rattle.std.proofs.lemmas.List.Sums.{position_or_len_is, fails_before_first, AllPass-from_list_all}
use Rattle.std.proofs.lemmas.List.Elements.{recursion_from_All}
use Rattle.lrs_element.specs.declared.link.Link.{Link}
use Rattle.lrs_element.specs.declared.link.Piece.{Piece}
use Rattle.lrs_element.specs.Course.{is_bad_piece, are_in_order}
use Rattle.lrs_element.specs.Pieces.{IsFilled}

-- in the order of their numbers
abbrev pub InOrder : List Link → Type 0
InOrder links = AllPairs (λ l m. l.number < m.number) links

pub numbers_rise : (links : List Link) → InOrder links → IsNonDecreasingBy (λ (l : Link). l.number) links
numbers_rise links o i j d le lt = ⊎_elim
    (λ (less : i < j). let h = o i j d less lt in omega (arith, h))
    (λ (ge : j ≤ i). let e : i ≡ j = omega arith in rw e (omega arith))
    (cases_lt i j)

abbrev pub has_number : ℕ → Link → Bool
has_number n l = nat_eq l.number n

pub find_link_is : (links : List Link) (n r : ℕ) (x : Link) → ((k : ℕ) (d : Link) → k < r → (get_or links k d).number < n) → r < length links → (get_or links r x).number ≡ n → Some (get_or links r x) ≡ find (has_number n) links
find_link_is links n r x below h e =
    let p : position_or_len (has_number n) links ≡ r = position_or_len_is (has_number n) links r x (omega arith)
    (λ k lt. ne_eqb _ _ (λ q. let b = below k x lt in absurd (omega (arith, b, q)))) (λ lt. eq-eqb _ _ e) in
    sym (find_at (has_number n) links ∙ ap (slice_get links) p ∙ slice_get-get_or links r x h)

pub find_link_none : (links : List Link) (n r : ℕ) → InOrder links → ((k : ℕ) (d : Link) → k < r → (get_or links k d).number < n) → ((k : ℕ) (d : Link) → r ≤ k → k < length links → n ≤ (get_or links k d).number)
    → ((d : Link) → r < length links → (get_or links r d).number ≢ n) → None ≡ find (has_number n) links
find_link_none [] n r o below from not_it = refl
find_link_none (l ∷ ls) n r o below from not_it =
    let links : List Link = l ∷ ls in
    let p : position_or_len (has_number n) links ≡ length links = position_or_len_is (has_number n) links (length links) l (omega arith)
    (λ k lt. ne_eqb _ _ (λ q. ⊎_elim
    (λ (less : k < r). let b = below k l less in absurd (omega (arith, b, q)))
    (λ (ge : r ≤ k). ⊎_elim
    (λ (same : k ≡ r). absurd (not_it l (omega arith) (ap (λ (i : ℕ). (get_or links i l).number) (sym same) ∙ q)))
    (λ (other : k ≢ r). let h = o r k l (omega arith) lt in let f = from r l (omega arith) (omega arith) in absurd (omega (arith, h, f, q)))
    (cases_eq k r))
    (cases_lt k r))) (λ lt. absurd (omega arith)) in
    sym (find_at (has_number n) links ∙ ap (slice_get links) p ∙ slice_get_past links (length links) (omega arith))

pub none_is_lacking : (n : ℕ) (links : List Link) → is_none (find (has_number n) links) ≡ not (list_any (has_number n) links)
none_is_lacking n [] = refl
none_is_lacking n (l ∷ ls) =
    elim (has_number n l) as (λ b. is_none (if b then Some l else find (has_number n) ls) ≡ not (b || list_any (has_number n) ls))
    [ true ↦ refl | false ↦ none_is_lacking n ls ]

pub lacking : (n : ℕ) (links : List Link) (o : Option Link) (b : Bool) → is_some o ≡ not b → o ≡ find (has_number n) links → b ≡ not (list_any (has_number n) links)
lacking n links o b h e = none_of o b h ∙ ap is_none e ∙ none_is_lacking n links
  where
    none_of : (o : Option Link) (b : Bool) → is_some o ≡ not b → b ≡ is_none o
    none_of None true h = refl
    none_of None false h = absurd (cc h)
    none_of (Some x) true h = absurd (cc h)
    none_of (Some x) false h = refl

-- the link that was read at the place of the search
pub find_link_read : (links : List Link) (n r : ℕ) (x y : Link) → ((k : ℕ) (d : Link) → k < r → (get_or links k d).number < n) → r < length links → (get_or links r x).number ≡ n → y ≡ get_or links r y → Some y ≡ find (has_number n) links
find_link_read links n r x y below h e s = ap Some s ∙ find_link_is links n r y below h (ap (λ (l : Link). l.number) (get_or_default links r y x h) ∙ e)

pub find_link_other : (links : List Link) (n r : ℕ) (x : Link) → InOrder links → ((k : ℕ) (d : Link) → k < r → (get_or links k d).number < n) → ((k : ℕ) (d : Link) → r ≤ k → k < length links → n ≤ (get_or links k d).number)
    → ((get_or links r x).number ≡ n → ⊥) → None ≡ find (has_number n) links
find_link_other links n r x o below from ne = find_link_none links n r o below from (λ d h q. ne (ap (λ (l : Link). l.number) (get_or_default links r x d h) ∙ q))

pub find_link_past : (links : List Link) (n r : ℕ) → InOrder links → ((k : ℕ) (d : Link) → k < r → (get_or links k d).number < n) → ((k : ℕ) (d : Link) → r ≤ k → k < length links → n ≤ (get_or links k d).number)
    → length links ≤ r → None ≡ find (has_number n) links
find_link_past links n r o below from h = find_link_none links n r o below from (λ d lt q. absurd (omega arith))

-- ---- no bad piece

none_before : {X : Type 0} (p : X → Bool) (xs : List X) → position p xs ≡ None → length xs ≤ position_or_len p xs
none_before p xs h = ltb-false _ _ (false_from_ne_true _ (λ t. absurd (cc (sym (ap (λ (b : Bool). if b then Some (position_or_len p xs) else None) t) ∙ h))))

pub filled_from_none : (links : List Link) (pieces : List Piece) → position (is_bad_piece links) pieces ≡ None → AllByRecursion IsFilled pieces
filled_from_none links pieces h = recursion_from_All IsFilled pieces (λ k d lt.
    let n = none_before (is_bad_piece links) pieces h in
    leb-false _ _ (or_parts _ _ (fails_before_first (is_bad_piece links) pieces k d (omega (arith, n)))).0)

-- ---- the order of the links

pub in_order_from_test : (links : List Link) → are_in_order links ≡ true → InOrder links
in_order_from_test [] h i j d lt in' = absurd (omega arith)
in_order_from_test (l ∷ ls) h i zero d lt in' = absurd (omega arith)
in_order_from_test (l ∷ ls) h zero (suc j) d lt in' = ltb-true _ _ (AllPass-from_list_all (λ m. nat_lt l.number m.number) ls (and_parts _ _ h).0 j d (omega arith))
in_order_from_test (l ∷ ls) h (suc i) (suc j) d lt in' = in_order_from_test ls (and_parts _ _ h).1 i j d (omega arith) (omega arith)
