-- Rows of two lists, each in the order of its numbers, matched from either side.
use Rattle.std.proofs.Common.{◌≡◌, ℕ, ◌<◌, Bool, true, false, cond, ◌⊎◌, inl, inr, List, [], ◌∷◌, Option, Some, None, refl, sym, ap, ◌∙◌, arith}
use Rattle.std.specs.Prelude.{nat_eq, nat_lt}
use Rattle.std.specs.List.{filter_map, cons_option, list_all}
use Rattle.std.specs.List as list
use Rattle.std.specs.Option.{option_map}
use Rattle.std.proofs.lemmas.Bool.{and_parts, cases_Bool, eqb-true, eq-eqb, ltb-true}
use Rattle.lrs_measure.specs.Lists.{In, each_two}
use Rattle.lrs_measure.proofs.Members.{all_at}

pub filter_map-same : {X Z : Type 0} (f h : X → Option Z) (xs : List X) → ((x : X) → In x xs → f x ≡ h x) → filter_map f xs ≡ filter_map h xs
filter_map-same f h [] same = refl
filter_map-same f h (x ∷ xs) same = λ i. cons_option (same x (inl refl) i) (filter_map-same f h xs (λ y m. same y (inr m)) i)

pub is_false : (b : Bool) → (b ≡ true → ⊥) → b ≡ false
is_false true h = absurd (h refl)
is_false false h = refl

not_equal : (m n : ℕ) → (m ≡ n → ⊥) → nat_eq m n ≡ false
not_equal m n h = is_false (nat_eq m n) (λ t. h (eqb-true m n t))

module _ {X : Type 0} (key : X → ℕ) where
  abbrev pub above : X → X → Bool
  above x y = nat_lt (key x) (key y)

  abbrev pub with_key : ℕ → X → Bool
  with_key n x = nat_eq (key x) n

  -- a row that is not the one is passed over
  passed : (n : ℕ) (y : X) (ys : List X) → (key y ≡ n → ⊥) → list.find (with_key n) (y ∷ ys) ≡ list.find (with_key n) ys
  passed n y ys h = ap (λ b. cond b (Some y) (list.find (with_key n) ys)) (not_equal (key y) n h)

  -- below all there is none
  pub none_below : (n : ℕ) (ys : List X) → ((y : X) → In y ys → n < key y) → list.find (with_key n) ys ≡ None
  none_below n [] h = refl
  none_below n (y ∷ ys) h =
      let low = h y (inl refl) in
      passed n y ys (λ e. omega (arith, low, e)) ∙ none_below n ys (λ z m. h z (inr m))

  first_is : (n : ℕ) (y : X) (ys : List X) → key y ≡ n → list.find (with_key n) (y ∷ ys) ≡ Some y
  first_is n y ys e = ap (λ b. cond b (Some y) (list.find (with_key n) ys)) (eq-eqb (key y) n e)

  later : (y z : X) (ys : List X) → each_two above (y ∷ ys) ≡ true → In z ys → key y < key z
  later y z ys order m = ltb-true (key y) (key z) (all_at (above y) z ys (and_parts (list_all (above y) ys) (each_two above ys) order).0 m)

  rest : (y : X) (ys : List X) → each_two above (y ∷ ys) ≡ true → each_two above ys ≡ true
  rest y ys order = (and_parts (list_all (above y) ys) (each_two above ys) order).1

  pub first_passed : (n : ℕ) (y : X) (ys : List X) → key y < n → list.find (with_key n) (y ∷ ys) ≡ list.find (with_key n) ys
  first_passed n y ys h = passed n y ys (λ e. omega (arith, h, e))

  pub first_found : (n : ℕ) (y : X) (ys : List X) → key y ≡ n → list.find (with_key n) (y ∷ ys) ≡ Some y
  first_found n y ys e = first_is n y ys e

  pub is_later : (y z : X) (ys : List X) → each_two above (y ∷ ys) ≡ true → In z ys → key y < key z
  is_later y z ys order m = later y z ys order m

  pub rest_in_order : (y : X) (ys : List X) → each_two above (y ∷ ys) ≡ true → each_two above ys ≡ true
  rest_in_order y ys order = rest y ys order

below_all : {X Y : Type 0} (kx : X → ℕ) (ky : Y → ℕ) (x : X) (y : Y) (ys : List Y) → each_two (above ky) (y ∷ ys) ≡ true → kx x < ky y → (z : Y) → In z (y ∷ ys) → kx x < ky z
below_all kx ky x y ys order h z (inl e) = let e : ky z ≡ ky y = ap ky e in omega (arith, h, e)
below_all kx ky x y ys order h z (inr m) = let l = is_later ky y z ys order m in omega (arith, h, l)

module _ {X Y Z : Type 0} (kx : X → ℕ) (ky : Y → ℕ) (f : X → Y → Z) where
  -- each of the first list with the one of the second that has its number
  abbrev pub to_right : List Y → X → Option Z
  to_right ys x = option_map (λ y. f x y) (list.find (with_key ky (kx x)) ys)

  -- ... and each of the second with the one of the first
  abbrev pub to_left : List X → Y → Option Z
  to_left xs y = option_map (λ x. f x y) (list.find (with_key kx (ky y)) xs)

  none_left : (xs : List X) → filter_map (to_right []) xs ≡ []
  none_left [] = refl
  none_left (x ∷ xs) = none_left xs

  none_right : (ys : List Y) → filter_map (to_left []) ys ≡ []
  none_right [] = refl
  none_right (y ∷ ys) = none_right ys

  data Rank (m n : ℕ) : Type 0 where
    Below : m < n → Rank m n
    Same : m ≡ n → Rank m n
    Above : n < m → Rank m n

  rank : (m n : ℕ) → Rank m n
  rank m n = by (cases_Bool (nat_lt m n)) (cases_Bool (nat_lt n m))
    where
      by : (nat_lt m n ≡ true) ⊎ (nat_lt m n ≡ false) → (nat_lt n m ≡ true) ⊎ (nat_lt n m ≡ false) → Rank m n
      by (inl e) b = Below (ltb-true m n e)
      by (inr e) (inl b) = Above (ltb-true n m b)
      by (inr e) (inr b) = Same (grind (arith, e, b))

  pub joined : (xs : List X) (ys : List Y) → each_two (above kx) xs ≡ true → each_two (above ky) ys ≡ true → filter_map (to_right ys) xs ≡ filter_map (to_left xs) ys
  joined [] ys ox oy = sym (none_right ys)
  joined (x ∷ xs) [] ox oy = none_left xs
  joined (x ∷ xs) (y ∷ ys) ox oy = by (rank (kx x) (ky y)) (joined xs (y ∷ ys) (rest_in_order kx x xs ox) oy) (joined (x ∷ xs) ys ox (rest_in_order ky y ys oy)) (joined xs ys (rest_in_order kx x xs ox) (rest_in_order ky y ys oy))
    where
      by : Rank (kx x) (ky y) → filter_map (to_right (y ∷ ys)) xs ≡ filter_map (to_left xs) (y ∷ ys) → filter_map (to_right ys) (x ∷ xs) ≡ filter_map (to_left (x ∷ xs)) ys → filter_map (to_right ys) xs ≡ filter_map (to_left xs) ys
          → filter_map (to_right (y ∷ ys)) (x ∷ xs) ≡ filter_map (to_left (x ∷ xs)) (y ∷ ys)
      by (Below h) a b c =
          ap (λ o. cons_option (option_map (λ y. f x y) o) (filter_map (to_right (y ∷ ys)) xs)) (none_below ky (kx x) (y ∷ ys) (below_all kx ky x y ys oy h))
          ∙ a
          ∙ filter_map-same (to_left xs) (to_left (x ∷ xs)) (y ∷ ys) (λ z m. ap (option_map (λ x. f x z)) (sym (first_passed kx (ky z) x xs (below_all kx ky x y ys oy h z m))))
      by (Above h) a b c =
          filter_map-same (to_right (y ∷ ys)) (to_right ys) (x ∷ xs) (λ z m. ap (option_map (λ y. f z y)) (first_passed ky (kx z) y ys (below_all ky kx y x xs ox h z m)))
          ∙ b
          ∙ ap (λ o. cons_option (option_map (λ x. f x y) o) (filter_map (to_left (x ∷ xs)) ys)) (sym (none_below kx (ky y) (x ∷ xs) (below_all ky kx y x xs ox h)))
      by (Same h) a b c =
          let start = λ (o : Option Z). cons_option o (filter_map (to_right (y ∷ ys)) xs) in
          ap (λ o. cons_option (option_map (λ y. f x y) o) (filter_map (to_right (y ∷ ys)) xs)) (first_found ky (kx x) y ys (sym h))
          ∙ ap (λ t. f x y ∷ t) (filter_map-same (to_right (y ∷ ys)) (to_right ys) xs (λ z m. let l = is_later kx x z xs ox m in ap (option_map (λ y. f z y)) (first_passed ky (kx z) y ys (omega (arith, l, h))))
          ∙ c
          ∙ filter_map-same (to_left xs) (to_left (x ∷ xs)) ys (λ z m. let l = is_later ky y z ys oy m in ap (option_map (λ x. f x z)) (sym (first_passed kx (ky z) x xs (omega (arith, l, h))))))
          ∙ ap (λ o. cons_option (option_map (λ x. f x y) o) (filter_map (to_left (x ∷ xs)) ys)) (sym (first_found kx (ky y) x xs h))
