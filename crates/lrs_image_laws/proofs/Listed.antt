-- Lists into which others are put by their order: their members, and tests of each two of them.
use Rattle.std.proofs.Common.{◌≡◌, ◌+◌, Bool, true, false, cond, ◌⊎◌, inl, inr, List, [], ◌∷◌, filter, length, refl, sym, ap, subst, ◌∙◌, arith}
use Rattle.std.specs.Prelude.{◌||◌, not}
use Rattle.std.specs.List.{list_any, list_all, flat_map}
use Rattle.std.proofs.lemmas.Bool.{and_parts}
use Rattle.lrs_measure.specs.Lists.{In, each_two}
use Rattle.lrs_measure.specs.OrderedLists.{insert_by, insert_all}
use Rattle.lrs_measure.proofs.Members.{all_at, all_of, In-flat_map, flat_map_found, In-filter}
use Rattle.lrs_measure.proofs.Insertions.{all-insert_by, In-insert}
use Rattle.lrs_measure.proofs.EachTwo.{two_front, two_rear, joined, across_of}
use Rattle.lrs_image_laws.proofs.InOrder.{each_two-insert_among}

module _ {X : Type 0} where
  pub all-insert_all : (before : X → X → Bool) (p : X → Bool) (xs ys : List X) → list_all p xs ≡ true → list_all p ys ≡ true → list_all p (insert_all before xs ys) ≡ true
  all-insert_all before p [] ys h k = k
  all-insert_all before p (x ∷ xs) ys h k = let both = and_parts (p x) (list_all p xs) h in all-insert_all before p xs (insert_by before x ys) both.1 (all-insert_by p before x ys both.0 k)

  -- those that pass and the others are all
  pub length-parted : (p : X → Bool) (xs : List X) → length (filter p xs) + length (filter (λ x. not (p x)) xs) ≡ length xs
  length-parted p [] = omega arith
  length-parted p (x ∷ xs) =
      let rest = length-parted p xs in
      elim (p x) as (λ b. length (cond b (x ∷ filter p xs) (filter p xs)) + length (cond (not b) (x ∷ filter (λ x. not (p x)) xs) (filter (λ x. not (p x)) xs)) ≡ length (x ∷ xs)) [
        | true ↦ omega (arith, rest)
        | false ↦ omega (arith, rest)
      ]

  -- ... so what is told of some is told of one of those or of one of these
  pub any-parted : (p test : X → Bool) (xs : List X) → list_any p xs ≡ (list_any p (filter test xs) || list_any p (filter (λ x. not (test x)) xs))
  any-parted p test [] = refl
  any-parted p test (x ∷ xs) =
      ap (λ b. p x || b) (any-parted p test xs)
      ∙ elim (test x) as (λ b. (p x || (list_any p (filter test xs) || list_any p (filter (λ x. not (test x)) xs))) ≡ (list_any p (cond b (x ∷ filter test xs) (filter test xs)) || list_any p (cond (not b) (x ∷ filter (λ x. not (test x)) xs) (filter (λ x. not (test x)) xs)))) [
        | true ↦ assoc (p x) (list_any p (filter test xs)) (list_any p (filter (λ x. not (test x)) xs))
        | false ↦ middle (p x) (list_any p (filter test xs)) (list_any p (filter (λ x. not (test x)) xs))
      ]
    where
      assoc : (a b c : Bool) → (a || (b || c)) ≡ ((a || b) || c)
      assoc true b c = refl
      assoc false b c = refl

      middle : (a b c : Bool) → (a || (b || c)) ≡ (b || (a || c))
      middle true true c = refl
      middle true false c = refl
      middle false b c = refl

  -- each two of both lists, by a test that is the same either way
  pub each_two-insert_all : (test before : X → X → Bool) (xs ys : List X) → ((x y : X) → test x y ≡ true → test y x ≡ true) → each_two test xs ≡ true → each_two test ys ≡ true
      → ((x y : X) → In x xs → In y ys → test x y ≡ true) → each_two test (insert_all before xs ys) ≡ true
  each_two-insert_all test before [] ys turn h k w = k
  each_two-insert_all test before (x ∷ xs) ys turn h k w =
      let heads = and_parts (list_all (test x) xs) (each_two test xs) h in
      each_two-insert_all test before xs (insert_by before x ys) turn heads.1
      (each_two-insert_among test before x ys (all_of (test x) ys (λ y m. w x y (inl refl) m)) (all_of (λ y. test y x) ys (λ y m. turn x y (w x y (inl refl) m))) k)
      (λ z y m n. with z y m (all_at (test x) z xs heads.0 m) (In-insert before x y ys n))
    where
      with : (z y : X) → In z xs → test x z ≡ true → (y ≡ x) ⊎ In y ys → test z y ≡ true
      with z y m t (inl e) = ap (test z) e ∙ turn x z t
      with z y m t (inr n) = w z y (inr m) n

module _ {X Y : Type 0} (test : Y → Y → Bool) (f : X → List Y) where
  -- two members are one, or what is made of them passes
  pub made_two : (a b : X) (xs : List X) (u v : Y) → each_two test (flat_map f xs) ≡ true → In a xs → In b xs → In u (f a) → In v (f b) → (a ≡ b) ⊎ ((test u v ≡ true) ⊎ (test v u ≡ true))
  made_two a b [] u v h m n k l = absurd m
  made_two a b (x ∷ xs) u v h (inl e) (inl g) k l = inl (e ∙ sym g)
  made_two a b (x ∷ xs) u v h (inl e) (inr n) k l = inr (inl (across_of test (f x) (flat_map f xs) h u v (subst (λ z. In u (f z)) e k) (In-flat_map f b v xs n l)))
  made_two a b (x ∷ xs) u v h (inr m) (inl g) k l = inr (inr (across_of test (f x) (flat_map f xs) h v u (subst (λ z. In v (f z)) g l) (In-flat_map f a u xs m k)))
  made_two a b (x ∷ xs) u v h (inr m) (inr n) k l = made_two a b xs u v (two_rear test (f x) (flat_map f xs) h) m n k l

  pub made_some : (p : X → Bool) (xs : List X) → each_two test (flat_map f xs) ≡ true → each_two test (flat_map f (filter p xs)) ≡ true
  made_some p [] h = refl
  made_some p (x ∷ xs) h =
      let rest = made_some p xs (two_rear test (f x) (flat_map f xs) h) in
      elim (p x) as (λ b. each_two test (flat_map f (cond b (x ∷ filter p xs) (filter p xs))) ≡ true) [
        | true ↦ joined test (f x) (flat_map f (filter p xs)) (two_front test (f x) (flat_map f xs) h) rest
            (λ u v m n. let z = flat_map_found f v (filter p xs) n in across_of test (f x) (flat_map f xs) h u v m (In-flat_map f z.0 v xs (In-filter p z.0 xs z.1).0 z.2))
        | false ↦ rest
      ]

module _ {X Y : Type 0} (test : Y → Y → Bool) (f : X → List Y) (before : X → X → Bool) (turn : (u v : Y) → test u v ≡ true → test v u ≡ true) where
  -- each two of what is made of both lists
  made_insert : (x : X) (ys : List X) → each_two test (f x) ≡ true → each_two test (flat_map f ys) ≡ true → ((u v : Y) → In u (f x) → In v (flat_map f ys) → test u v ≡ true)
      → each_two test (flat_map f (insert_by before x ys)) ≡ true
  made_insert x [] own h w = joined test (f x) [] own refl (λ u v m n. absurd n)
  made_insert x (y ∷ ys) own h w =
      elim (before x y) as (λ b. each_two test (flat_map f (cond b (x ∷ y ∷ ys) (y ∷ insert_by before x ys))) ≡ true) [
        | true ↦ joined test (f x) (flat_map f (y ∷ ys)) own h w
        | false ↦ joined test (f y) (flat_map f (insert_by before x ys)) (two_front test (f y) (flat_map f ys) h)
            (made_insert x ys own (two_rear test (f y) (flat_map f ys) h) (λ u v m n. w u v m (later v n)))
            (λ u v m n. let z = flat_map_found f v (insert_by before x ys) n in mixed u v z.0 m z.2 (In-insert before x z.0 ys z.1))
      ]
    where
      later : (v : Y) → In v (flat_map f ys) → In v (flat_map f (y ∷ ys))
      later v n = let z = flat_map_found f v ys n in In-flat_map f z.0 v (y ∷ ys) (inr z.1) z.2

      mixed : (u v : Y) (z : X) → In u (f y) → In v (f z) → (z ≡ x) ⊎ In z ys → test u v ≡ true
      mixed u v z m n (inl e) = turn v u (w v u (subst (λ z. In v (f z)) e n) (In-flat_map f y u (y ∷ ys) (inl refl) m))
      mixed u v z m n (inr k) = across_of test (f y) (flat_map f ys) h u v m (In-flat_map f z v ys k n)

  pub made-insert_all : (xs ys : List X) → each_two test (flat_map f xs) ≡ true → each_two test (flat_map f ys) ≡ true → ((u v : Y) → In u (flat_map f xs) → In v (flat_map f ys) → test u v ≡ true)
      → each_two test (flat_map f (insert_all before xs ys)) ≡ true
  made-insert_all [] ys h k w = k
  made-insert_all (x ∷ xs) ys h k w =
      made-insert_all xs (insert_by before x ys) (two_rear test (f x) (flat_map f xs) h)
      (made_insert x ys (two_front test (f x) (flat_map f xs) h) k (λ u v m n. w u v (In-flat_map f x u (x ∷ xs) (inl refl) m) n))
      (λ u v m n.
      let a = flat_map_found f u xs m in
      let z = flat_map_found f v (insert_by before x ys) n in
      mixed u v a.0 z.0 a.1 a.2 z.2 (In-insert before x z.0 ys z.1))
    where
      mixed : (u v : Y) (a z : X) → In a xs → In u (f a) → In v (f z) → (z ≡ x) ⊎ In z ys → test u v ≡ true
      mixed u v a z m k n (inl e) = turn v u (across_of test (f x) (flat_map f xs) h v u (subst (λ z. In v (f z)) e n) (In-flat_map f a u xs m k))
      mixed u v a z m k n (inr o) = w u v (In-flat_map f a u (x ∷ xs) (inr m) k) (In-flat_map f z v ys o n)
