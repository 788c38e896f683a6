-- A change of the row of a key among rows in the order of their keys.
use Rattle.std.proofs.Common.{◌≡◌, ℕ, zero, suc, ◌<◌, Bool, true, false, cond, Some, None, Option, List, [], ◌∷◌, length, map, get_or, set, refl, sym, arith}
use Rattle.std.specs.List.{find, list_all}
use Rattle.std.specs.declared.cmp.Ordering.{Ordering}
use Rattle.std.specs.declared.cmp.Ordering.TheVariants.{Greater}
use Rattle.std.specs.Ordering.{is_lt, is_eq, is_ge}
use Rattle.std.proofs.lemmas.Bool.{and_parts}
use Rattle.lrs_measure.specs.Lists.{each_two}
use Rattle.lrs_measure.specs.OrderedLists.{place_by}
use Rattle.lrs_report.proofs.Keyed.{place_first, place_later, not_from, none_above}

module _ {X : Type 0} (order : X → Ordering) where
  not_here : (b : Bool) (x : X) (o : Option X) → cond b (Some x) o ≡ None → (b ≡ false) × (o ≡ None)
  not_here true x o h = absurd cc
  not_here false x o h = (refl, h)

  -- where none is found, a change of the rows of the key changes nothing
  pub unchanged : (f : X → X) (xs : List X) → find (λ x. is_eq (order x)) xs ≡ None → xs ≡ map (λ x. cond (is_eq (order x)) (f x) x) xs
  unchanged f [] h = refl
  unchanged f (x ∷ xs) h =
      let both = not_here (is_eq (order x)) x (find (λ y. is_eq (order y)) xs) h in
      let rest = unchanged f xs both.1 in
      λ i. cond (sym both.0 i) (f x) x ∷ rest i

  module _ (before : X → X → Bool) (rises : (a b : X) → before a b ≡ true → is_lt (order a) ≡ false → order b ≡ Greater) where
    -- to change the row where those below a key end is to change all of the key, if it has the key
    pub changed : (f : X → X) (xs : List X) (k : ℕ) (d y : X) → each_two before xs ≡ true → k ≡ place_by (λ x. is_ge (order x)) xs → k < length xs → is_eq (order (get_or xs k d)) ≡ true → y ≡ f (get_or xs k d)
        → set xs k y ≡ map (λ x. cond (is_eq (order x)) (f x) x) xs
    changed f [] k d y h e within here same = absurd (omega (arith, within))
    changed f (x ∷ xs) zero d y h e within here same =
        let from = place_first (is_ge (order x)) (place_by (λ z. is_ge (order z)) xs) (sym e) in
        let rest = unchanged f xs (none_above order before rises x xs from (and_parts (list_all (before x) xs) (each_two before xs) h).0) in
        λ i. cond (sym here i) (same i) x ∷ rest i
    changed f (x ∷ xs) (suc k) d y h e within here same =
        let later = place_later (is_ge (order x)) (place_by (λ z. is_ge (order z)) xs) k (sym e) in
        let rest = changed f xs k d y (and_parts (list_all (before x) xs) (each_two before xs) h).1 (sym later.1) (omega (arith, within)) here same in
        λ i. cond (sym (not_from (order x) later.0) i) (f x) x ∷ rest i
