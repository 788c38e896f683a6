-- Tests of lists: of two together, of lists of lists, and of the elements in front.
use Rattle.std.proofs.Common.{◌≡◌, ℕ, zero, suc, ◌+◌, ◌<◌, Bool, true, false, not, cond, List, [], ◌∷◌, length, get_or, take, drop, refl, ap, ◌∙◌, arith}
use Rattle.std.specs.Prelude.{◌&&◌, ◌||◌}
use Rattle.std.specs.List.{list_all, list_any, flat_map, prefix_len}
use Rattle.std.proofs.lemmas.Bool.{and_parts, and_from, false≢true}
use Rattle.std.proofs.lemmas.List.Folds.{list_any-append, list_all-append}
use Rattle.std.proofs.lemmas.List.Sums.{prefix_len_is}
use Rattle.lrs_measure.specs.Lists.{each_two}

pub or_nothing : (b : Bool) → (b || false) ≡ b
or_nothing true = refl
or_nothing false = refl

pub and_nothing : (b : Bool) → (b && false) ≡ false
and_nothing true = refl
and_nothing false = refl

pub one_more : (n : ℕ) → 1 + n ≡ suc n
one_more n = omega arith

module _ {X : Type 0} where
  pub any-agree : (p q : X → Bool) (xs : List X) → ((x : X) → p x ≡ q x) → list_any p xs ≡ list_any q xs
  any-agree p q xs h = λ i. list_any (λ x. h x i) xs

  -- where all pass the one test, the other tells
  pub any-all : (p q : X → Bool) (xs : List X) → list_all p xs ≡ true → list_any (λ x. p x && q x) xs ≡ list_any q xs
  any-all p q [] h = refl
  any-all p q (x ∷ xs) h =
      let both = and_parts (p x) (list_all p xs) h in
      λ i. (both.0 i && q x) || any-all p q xs both.1 i

  -- where none does, none passes both
  pub any-none : (p q : X → Bool) (xs : List X) → list_all (λ x. not (p x)) xs ≡ true → list_any (λ x. p x && q x) xs ≡ false
  any-none p q [] h = refl
  any-none p q (x ∷ xs) h =
      let both = and_parts (not (p x)) (list_all (λ x. not (p x)) xs) h in
      by (p x) both.0 (any-none p q xs both.1)
    where
      by : (b : Bool) → not b ≡ true → list_any (λ x. p x && q x) xs ≡ false → ((b && q x) || list_any (λ x. p x && q x) xs) ≡ false
      by true n rest = absurd (false≢true n)
      by false n rest = rest

  -- ---- a front

  all-take : (p : X → Bool) (k : ℕ) (ys : List X) → list_all p ys ≡ true → list_all p (take k ys) ≡ true
  all-take p zero ys h = refl
  all-take p (suc k) [] h = refl
  all-take p (suc k) (y ∷ ys) h =
      let both = and_parts (p y) (list_all p ys) h in
      and_from (p y) (list_all p (take k ys)) both.0 (all-take p k ys both.1)

  pub two-take : (test : X → X → Bool) (k : ℕ) (xs : List X) → each_two test xs ≡ true → each_two test (take k xs) ≡ true
  two-take test zero xs h = refl
  two-take test (suc k) [] h = refl
  two-take test (suc k) (x ∷ xs) h =
      let both = and_parts (list_all (test x) xs) (each_two test xs) h in
      and_from (list_all (test x) (take k xs)) (each_two test (take k xs)) (all-take (test x) k xs both.0) (two-take test k xs both.1)

  pub two-drop : (test : X → X → Bool) (k : ℕ) (xs : List X) → each_two test xs ≡ true → each_two test (drop k xs) ≡ true
  two-drop test zero xs h = h
  two-drop test (suc k) [] h = refl
  two-drop test (suc k) (x ∷ xs) h = two-drop test k xs (and_parts (list_all (test x) xs) (each_two test xs) h).1

  each-weaker : (p : X → Bool) (s t : X → Bool) (ys : List X) → ((y : X) → p y ≡ true → s y ≡ true → t y ≡ true) → list_all p ys ≡ true → list_all s ys ≡ true → list_all t ys ≡ true
  each-weaker p s t [] w a h = refl
  each-weaker p s t (y ∷ ys) w a h =
      let all = and_parts (p y) (list_all p ys) a in
      let both = and_parts (s y) (list_all s ys) h in
      and_from (t y) (list_all t ys) (w y all.0 both.0) (each-weaker p s t ys w all.1 both.1)

  -- of two tests of each two, the second where the elements pass a third
  pub two-weaker : (p : X → Bool) (s t : X → X → Bool) (xs : List X) → ((x y : X) → p x ≡ true → p y ≡ true → s x y ≡ true → t x y ≡ true)
      → list_all p xs ≡ true → each_two s xs ≡ true → each_two t xs ≡ true
  two-weaker p s t [] w a h = refl
  two-weaker p s t (x ∷ xs) w a h =
      let all = and_parts (p x) (list_all p xs) a in
      let both = and_parts (list_all (s x) xs) (each_two s xs) h in
      and_from (list_all (t x) xs) (each_two t xs) (each-weaker p (s x) (t x) xs (λ y q k. w x y all.0 q k) all.1 both.0) (two-weaker p s t xs w all.1 both.1)

  -- the front that passes
  pub front_passes : (p : X → Bool) (xs : List X) → list_all p (take (prefix_len p xs) xs) ≡ true
  front_passes p [] = refl
  front_passes p (x ∷ xs) = by (p x) refl (front_passes p xs)
    where
      by : (b : Bool) → p x ≡ b → list_all p (take (prefix_len p xs) xs) ≡ true → list_all p (take (cond b (1 + prefix_len p xs) 0) (x ∷ xs)) ≡ true
      by true e rest = ap (λ k. list_all p (take k (x ∷ xs))) (one_more (prefix_len p xs)) ∙ and_from (p x) (list_all p (take (prefix_len p xs) xs)) e rest
      by false e rest = refl

  pub prefix_all : (p : X → Bool) (xs : List X) → ((k : ℕ) (d : X) → k < length xs → p (get_or xs k d) ≡ true) → prefix_len p xs ≡ length xs
  prefix_all p [] h = refl
  prefix_all p (x ∷ xs) h = prefix_len_is p (x ∷ xs) (length (x ∷ xs)) x (omega arith) (λ k l. h k x l) (λ l. absurd (omega (arith, l)))

  -- ---- lists of lists

  pub any-flat : {Y : Type 0} (p : Y → Bool) (f : X → List Y) (xs : List X) → list_any p (flat_map f xs) ≡ list_any (λ x. list_any p (f x)) xs
  any-flat p f [] = refl
  any-flat p f (x ∷ xs) = list_any-append p (f x) (flat_map f xs) ∙ ap (λ b. list_any p (f x) || b) (any-flat p f xs)

  pub all-flat : {Y : Type 0} (p : Y → Bool) (f : X → List Y) (xs : List X) → list_all p (flat_map f xs) ≡ list_all (λ x. list_all p (f x)) xs
  all-flat p f [] = refl
  all-flat p f (x ∷ xs) = list_all-append p (f x) (flat_map f xs) ∙ ap (λ b. list_all p (f x) && b) (all-flat p f xs)
