-- A row that is taken out by its name and put back into its place.
use Rattle.std.proofs.Common.{◌≡◌, Bool, true, false, cond, List, [], ◌∷◌, Option, Some, None, filter, refl, sym, ap, ◌∙◌}
use Rattle.std.specs.Prelude.{not}
use Rattle.std.specs.List.{find, list_all}
use Rattle.std.proofs.lemmas.Bool.{false≢true, and_parts, and_from}
use Rattle.lrs_measure.specs.Lists.{each_two}
use Rattle.lrs_measure.specs.OrderedLists.{insert_by, insert_some}

module _ {X : Type 0} (before : X → X → Bool) (p : X → Bool) where
  -- where none passes, nothing is found and nothing goes
  pub none_found : (xs : List X) → list_all (λ x. not (p x)) xs ≡ true → find p xs ≡ None
  none_found [] h = refl
  none_found (x ∷ xs) h =
      let both = and_parts (not (p x)) (list_all (λ y. not (p y)) xs) h in
      elim (p x) as (λ b. not b ≡ true → cond b (Some x) (find p xs) ≡ None) [
        | true ↦ λ k. absurd (false≢true k)
        | false ↦ λ k. none_found xs both.1
      ] both.0

  pub none_goes : (xs : List X) → list_all (λ x. not (p x)) xs ≡ true → filter (λ x. not (p x)) xs ≡ xs
  none_goes [] h = refl
  none_goes (x ∷ xs) h =
      let both = and_parts (not (p x)) (list_all (λ y. not (p y)) xs) h in
      ap (λ b. cond b (x ∷ filter (λ y. not (p y)) xs) (filter (λ y. not (p y)) xs)) both.0 ∙ ap (λ t. x ∷ t) (none_goes xs both.1)

  -- what is found passes what all pass
  pub found_passes : (q : X → Bool) (z : X) (xs : List X) → list_all q xs ≡ true → find p xs ≡ Some z → q z ≡ true
  found_passes q z [] h e = absurd (cc e)
  found_passes q z (x ∷ xs) h e =
      let both = and_parts (q x) (list_all q xs) h in
      elim (p x) as (λ b. cond b (Some x) (find p xs) ≡ Some z → q z ≡ true) [
        | true ↦ λ k. ap q (sym (cc k)) ∙ both.0
        | false ↦ λ k. found_passes q z xs both.1 k
      ] e

  -- none of these passes, where they come after one that does
  none_after : (x : X) → ((y : X) → before x y ≡ true → p y ≡ false) → (xs : List X) → list_all (before x) xs ≡ true → list_all (λ y. not (p y)) xs ≡ true
  none_after x once [] h = refl
  none_after x once (y ∷ ys) h =
      let both = and_parts (before x y) (list_all (before x) ys) h in
      and_from (not (p y)) (list_all (λ z. not (p z)) ys) (ap not (once y both.0)) (none_after x once ys both.1)

  -- What was found, put before those that it comes before, is again where it was: of two elements one comes before the other, and one passes.
  pub put_back : ((x y : X) → before x y ≡ true → before y x ≡ false) → ((x y : X) → before x y ≡ true → p x ≡ true → p y ≡ false) → (xs : List X) → each_two before xs ≡ true
      → insert_some before (find p xs) (filter (λ x. not (p x)) xs) ≡ xs
  put_back apart once [] h = refl
  put_back apart once (x ∷ xs) h =
      let order = and_parts (list_all (before x) xs) (each_two before xs) h in
      elim (p x) as (λ b. p x ≡ b → insert_some before (cond b (Some x) (find p xs)) (cond (not b) (x ∷ filter (λ y. not (p y)) xs) (filter (λ y. not (p y)) xs)) ≡ x ∷ xs) [
        | true ↦ λ here. ap (insert_by before x) (none_goes xs (none_after x (λ y k. once x y k here) xs order.0)) ∙ first x xs order.0
        | false ↦ λ here. later x (find p xs) (filter (λ y. not (p y)) xs) (λ z e. apart x z (found_passes (before x) z xs order.0 e)) ∙ ap (λ t. x ∷ t) (put_back apart once xs order.1)
      ] refl
    where
      first : (y : X) (ys : List X) → list_all (before y) ys ≡ true → insert_by before y ys ≡ y ∷ ys
      first y [] all = refl
      first y (z ∷ zs) all = ap (λ b. cond b (y ∷ z ∷ zs) (z ∷ insert_by before y zs)) (and_parts (before y z) (list_all (before y) zs) all).0

      later : (y : X) (o : Option X) (ys : List X) → ((z : X) → o ≡ Some z → before z y ≡ false) → insert_some before o (y ∷ ys) ≡ y ∷ insert_some before o ys
      later y None ys fails = refl
      later y (Some z) ys fails = ap (λ b. cond b (z ∷ y ∷ ys) (y ∷ insert_by before z ys)) (fails z refl)
