-- Lists made of lists, and which of their elements stay.
use Rattle.std.proofs.Common.{◌≡◌, inl, inr, ℕ, ◌+◌, Bool, true, false, cond, List, [], ◌∷◌, ◌++◌, map, filter, flat_map, length, refl, sym, ap, ap₂, ◌∙◌, arith}
use Rattle.std.specs.Prelude.{◌||◌}
use Rattle.std.specs.List.{AllByRecursion, list_any, list_all}
use Rattle.std.proofs.lemmas.Bool.{and_parts, and_from}
use Rattle.std.proofs.lemmas.List.Elements.{filter-append}
use Rattle.std.proofs.lemmas.List.Folds.{list_all-append}
use Rattle.sqlite_keyed.proofs.ListLemmas.{filter_all, filter_none, all_weaker}
use Rattle.lrs_measure.specs.Lists.{In, each_two}
use Rattle.lrs_store_tables.specs.Contents.Encoders.{numbered}

pub numbered_all : {X Row : Type 0} (P : Row → Type 0) (row : ℕ → X → Row) → ((k : ℕ) (x : X) → P (row k x)) → (k : ℕ) (xs : List X) → AllByRecursion P (numbered row k xs)
numbered_all P row h k [] = tt
numbered_all P row h k (x ∷ xs) = (h k x, numbered_all P row h (k + 1) xs)

pub map-numbered : {X Row Other : Type 0} (g : Row → Other) (row : ℕ → X → Row) (other : ℕ → X → Other) → ((k : ℕ) (x : X) → g (row k x) ≡ other k x) → (k : ℕ) (xs : List X) → map g (numbered row k xs) ≡ numbered other k xs
map-numbered g row other same k [] = refl
map-numbered g row other same k (x ∷ xs) = ap₂ (λ r rs. r ∷ rs) (same k x) (map-numbered g row other same (k + 1) xs)

pub numbered_last : {X Row : Type 0} (row : ℕ → X → Row) (n k : ℕ) (xs : List X) (x : X) → k ≡ n + length xs → numbered row n (xs ++ x ∷ []) ≡ numbered row n xs ++ row k x ∷ []
numbered_last row n k [] x e = let same : n ≡ k = omega (arith, e) in ap (λ m. row m x ∷ []) same
numbered_last row n k (y ∷ ys) x e = ap (λ rows. row n y ∷ rows) (numbered_last row (n + 1) k ys x (omega (arith, e)))

module _ {X Y : Type 0} where
  pub flat_map_alike : (f g : X → List Y) (xs : List X) → AllByRecursion (λ x. f x ≡ g x) xs → flat_map f xs ≡ flat_map g xs
  flat_map_alike f g [] h = refl
  flat_map_alike f g (x ∷ xs) h = ap₂ (λ y ys. y ++ ys) h.0 (flat_map_alike f g xs h.1)

module _ {X Y : Type 0} where
  pub map_alike : (f g : X → Y) (xs : List X) → AllByRecursion (λ x. f x ≡ g x) xs → map f xs ≡ map g xs
  map_alike f g [] h = refl
  map_alike f g (x ∷ xs) h = ap₂ (λ y ys. y ∷ ys) h.0 (map_alike f g xs h.1)

module _ {X : Type 0} where
  pub map_kept : (f : X → X) (xs : List X) → AllByRecursion (λ x. f x ≡ x) xs → map f xs ≡ xs
  map_kept f [] h = refl
  map_kept f (x ∷ xs) h = ap₂ (λ y ys. y ∷ ys) h.0 (map_kept f xs h.1)

  pub filter_alike : (p q : X → Bool) (xs : List X) → AllByRecursion (λ x. p x ≡ q x) xs → filter p xs ≡ filter q xs
  filter_alike p q [] h = refl
  filter_alike p q (x ∷ xs) h = ap₂ (λ b rest. cond b (x ∷ rest) rest) h.0 (filter_alike p q xs h.1)

  pub any_alike : (p q : X → Bool) (xs : List X) → AllByRecursion (λ x. p x ≡ q x) xs → list_any p xs ≡ list_any q xs
  any_alike p q [] h = refl
  any_alike p q (x ∷ xs) h = ap₂ (λ a b. a || b) h.0 (any_alike p q xs h.1)

  -- what holds of each member
  pub all_members : (P : X → Type 0) (xs : List X) → ((x : X) → In x xs → P x) → AllByRecursion P xs
  all_members P [] h = tt
  all_members P (x ∷ xs) h = (h x (inl refl), all_members P xs (λ y m. h y (inr m)))

  pub two_weaker : (test other : X → X → Bool) → ((x y : X) → test x y ≡ true → other x y ≡ true) → (xs : List X) → each_two test xs ≡ true → each_two other xs ≡ true
  two_weaker test other w [] h = refl
  two_weaker test other w (x ∷ xs) h =
      let both = and_parts (list_all (test x) xs) (each_two test xs) h in
      and_from (list_all (other x) xs) (each_two other xs) (each xs both.0) (two_weaker test other w xs both.1)
    where
      each : (ys : List X) → list_all (test x) ys ≡ true → list_all (other x) ys ≡ true
      each [] k = refl
      each (y ∷ ys) k = let both = and_parts (test x y) (list_all (test x) ys) k in and_from (other x y) (list_all (other x) ys) (w x y both.0) (each ys both.1)

  -- each element of the first list beside each of the second
  pub two_across : (test : X → X → Bool) (xs ys : List X) → each_two test (xs ++ ys) ≡ true → list_all (λ x. list_all (test x) ys) xs ≡ true
  two_across test [] ys h = refl
  two_across test (x ∷ xs) ys h =
      let both = and_parts (list_all (test x) (xs ++ ys)) (each_two test (xs ++ ys)) h in
      let apart = and_parts (list_all (test x) xs) (list_all (test x) ys) (sym (list_all-append (test x) xs ys) ∙ both.0) in
      and_from (list_all (test x) ys) (list_all (λ z. list_all (test z) ys) xs) apart.1 (two_across test xs ys both.1)

-- Where a test of rows goes by the element that they are of, the rows that stay are those of the elements that stay.
module _ {X Row : Type 0} (stays : Row → Bool) (is : X → Bool) (rows : X → List Row) (each : (x : X) → AllByRecursion (λ r. stays r ≡ is x) (rows x)) where
  pub filter-flat_map : (xs : List X) → filter stays (flat_map rows xs) ≡ flat_map rows (filter is xs)
  filter-flat_map [] = refl
  filter-flat_map (x ∷ xs) = filter-append stays (rows x) (flat_map rows xs) ∙ by (filter-flat_map xs) (is x) refl
    where
      by : filter stays (flat_map rows xs) ≡ flat_map rows (filter is xs) → (b : Bool) → is x ≡ b → filter stays (rows x) ++ filter stays (flat_map rows xs) ≡ flat_map rows (cond b (x ∷ filter is xs) (filter is xs))
      by later true e = ap₂ (λ a b. a ++ b) (filter_all stays (rows x) (all_weaker (λ r. stays r ≡ is x) (λ r. stays r ≡ true) (λ r h. h ∙ e) (rows x) (each x))) later
      by later false e = ap₂ (λ a b. a ++ b) (filter_none stays (rows x) (all_weaker (λ r. stays r ≡ is x) (λ r. stays r ≡ false) (λ r h. h ∙ e) (rows x) (each x))) later
