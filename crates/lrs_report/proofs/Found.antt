-- The first element that passes a test.
use Rattle.std.proofs.Common.{◌≡◌, Bool, true, false, cond, Some, None, inl, inr, List, [], ◌∷◌, refl, sym, ap, ◌∙◌}
use Rattle.std.specs.Prelude.{◌&&◌, ◌||◌, is_some}
use Rattle.std.specs.List.{find, list_any, list_all}
use Rattle.std.specs.Option.{option_map_or}
use Rattle.std.proofs.lemmas.Bool.{and_parts}
use Rattle.lrs_measure.specs.Lists.{In, each_two}
use Rattle.lrs_measure.proofs.Members.{all_at}

module _ {X : Type 0} (p : X → Bool) where
  -- what is found is a member that passes
  pub found_in : (x : X) (xs : List X) → find p xs ≡ Some x → In x xs × (p x ≡ true)
  found_in x [] h = absurd cc
  found_in x (y ∷ ys) h = by (p y) refl (found_in x ys) h
    where
      by : (b : Bool) → p y ≡ b → (find p ys ≡ Some x → In x ys × (p x ≡ true)) → cond b (Some y) (find p ys) ≡ Some x → In x (y ∷ ys) × (p x ≡ true)
      by true e later k = let same : y ≡ x = cc in (inl (sym same), ap p (sym same) ∙ e)
      by false e later k = let rest = later k in (inr rest.0, rest.1)

  -- where nothing is found, no member passes
  pub found_none : (xs : List X) → find p xs ≡ None → (x : X) → In x xs → p x ≡ false
  found_none [] h x m = absurd m
  found_none (y ∷ ys) h x m = by (p y) refl (found_none ys) h m
    where
      by : (b : Bool) → p y ≡ b → (find p ys ≡ None → (z : X) → In z ys → p z ≡ false) → cond b (Some y) (find p ys) ≡ None → In x (y ∷ ys) → p x ≡ false
      by true e later k n = absurd cc
      by false e later k (inl same) = ap p same ∙ e
      by false e later k (inr n) = later k x n

  -- ... and where no member passes, nothing is found
  pub none_found : (xs : List X) → ((x : X) → In x xs → p x ≡ false) → find p xs ≡ None
  none_found [] h = refl
  none_found (y ∷ ys) h = ap (λ b. cond b (Some y) (find p ys)) (h y (inl refl)) ∙ none_found ys (λ x m. h x (inr m))

  -- something is found where some element passes
  pub found_some : (xs : List X) → is_some (find p xs) ≡ list_any p xs
  found_some [] = refl
  found_some (y ∷ ys) = by (p y) (found_some ys)
    where
      by : (b : Bool) → is_some (find p ys) ≡ list_any p ys → is_some (cond b (Some y) (find p ys)) ≡ (b || list_any p ys)
      by true rest = refl
      by false rest = rest

  -- a test that agrees on the members finds the same
  pub found_same : (q : X → Bool) (xs : List X) → ((x : X) → In x xs → p x ≡ q x) → find p xs ≡ find q xs
  found_same q [] h = refl
  found_same q (y ∷ ys) h = let one = h y (inl refl) in let rest = found_same q ys (λ x m. h x (inr m)) in λ i. cond (one i) (Some y) (rest i)

  none_passes : (q : X → Bool) (xs : List X) → ((x : X) → In x xs → p x ≡ false) → list_any (λ x. p x && q x) xs ≡ false
  none_passes q [] h = refl
  none_passes q (y ∷ ys) h = let one = h y (inl refl) in let rest = none_passes q ys (λ x m. h x (inr m)) in λ i. (one i && q y) || rest i

  -- where at most one element passes, some element passes another test too where that one does
  pub found_passes : (before : X → X → Bool) (q : X → Bool) (xs : List X) → each_two before xs ≡ true → ((x y : X) → before x y ≡ true → p x ≡ true → p y ≡ false) → option_map_or q (find p xs) false ≡ list_any (λ x. p x && q x) xs
  found_passes before q [] order once = refl
  found_passes before q (y ∷ ys) order once = by (p y) refl (found_passes before q ys parts.1 once)
    where
      parts : (list_all (before y) ys ≡ true) × (each_two before ys ≡ true)
      parts = and_parts (list_all (before y) ys) (each_two before ys) order

      else_false : (b : Bool) → b ≡ (b || false)
      else_false true = refl
      else_false false = refl

      by : (b : Bool) → p y ≡ b → option_map_or q (find p ys) false ≡ list_any (λ x. p x && q x) ys → option_map_or q (cond b (Some y) (find p ys)) false ≡ ((b && q y) || list_any (λ x. p x && q x) ys)
      by true e rest = else_false (q y) ∙ ap (λ b. q y || b) (sym (none_passes q ys (λ x m. once y x (all_at (before y) x ys parts.0 m) e)))
      by false e rest = rest
