-- What rows say in any order, and what a sort makes of it.
use Rattle.std.proofs.Common.{◌≡◌, Bool, true, false, cond, ◌⊎◌, inl, inr, List, [], ◌∷◌, filter, Option, Some, None, Ok, Err, refl, sym, ap, ◌∙◌, IsPermutation}
use Rattle.std.specs.Prelude.{◌||◌}
use Rattle.std.specs.List.{list_all}
use Rattle.std.specs.Cmp.{IsStrictWeakOrder}
use Rattle.std.proofs.lemmas.Bool.{both_ways, and_parts, and_from, or_from, or_left, cases_Bool, false_from_ne_true}
use Rattle.std.proofs.lemmas.List.Sorted.{IsPermutation-refl, IsPermutation-cons, IsPermutation-trans, IsPermutation-middle}
use Rattle.lrs_measure.specs.Lists.{each_two}
use Rattle.lrs_measure.specs.OrderedLists.{insert_by}
use Rattle.lrs_measure.proofs.Members.{all_weaker}
use Rattle.lrs_measure.proofs.Insertions.{order_of_others}
use Rattle.lrs_events.proofs.LaneLists.Inserted.{IsPermutation-insert_by}
use Rattle.lrs_events.proofs.LaneLists.Ranks.{before_trans}
use Rattle.lrs_machine.specs.declared.table.Table.{Table}
use Rattle.lrs_image_sound.proofs.Along.{along_permutation}
use Rattle.lrs_image_sound.proofs.Sweeping.{each_two-permutation}
use Rattle.lrs_store_tables.specs.Contents.Decoders.{each_of, each_sorted, sorted}
use Rattle.lrs_store_tables.specs.Contents.Decoders as option
use Rattle.lrs_store_tables.specs.Contents.Content.{read}

-- ---- what each of the rows says

-- nothing on either side, or the same in some order
abbrev pub AreAlike : {X : Type 0} → Option (List X) → Option (List X) → Type 0
AreAlike None None = Unit {0}
AreAlike (Some xs) (Some ys) = IsPermutation xs ys
AreAlike None (Some ys) = ⊥
AreAlike (Some xs) None = ⊥

module _ {Row X : Type 0} (decoded : Row → Option X) where
  alike-refl : (o : Option (List X)) → AreAlike o o
  alike-refl None = tt
  alike-refl (Some xs) = IsPermutation-refl xs

  alike-trans : (a b c : Option (List X)) → AreAlike a b → AreAlike b c → AreAlike a c
  alike-trans None None c h k = k
  alike-trans None (Some y) c h k = absurd h
  alike-trans (Some x) None c h k = absurd h
  alike-trans (Some x) (Some y) None h k = absurd k
  alike-trans (Some x) (Some y) (Some z) h k = IsPermutation-trans x y z h k

  -- what one row says with what the others say
  abbrev one : Option X → Option (List X) → Option (List X)
  one o more = option.◌>>=◌ o (λ x. option.◌>>=◌ more (λ xs. Some (x ∷ xs)))

  one-skip : (o : Option X) (a b : Option (List X)) → AreAlike a b → AreAlike (one o a) (one o b)
  one-skip None a b h = tt
  one-skip (Some x) None None h = tt
  one-skip (Some x) None (Some ys) h = absurd h
  one-skip (Some x) (Some xs) None h = absurd h
  one-skip (Some x) (Some xs) (Some ys) h = IsPermutation-cons x xs ys h

  one-turn : (o p : Option X) (a : Option (List X)) → AreAlike (one o (one p a)) (one p (one o a))
  one-turn None None a = tt
  one-turn None (Some y) None = tt
  one-turn None (Some y) (Some xs) = tt
  one-turn (Some x) None a = tt
  one-turn (Some x) (Some y) None = tt
  one-turn (Some x) (Some y) (Some xs) = IsPermutation-middle (x ∷ []) y xs

  -- Rows in another order say nothing where these do, or the same in some order.
  pub each_of-permutation : (xs ys : List Row) → IsPermutation xs ys → AreAlike (each_of decoded xs) (each_of decoded ys)
  each_of-permutation = along_permutation (λ xs ys. AreAlike (each_of decoded xs) (each_of decoded ys))
      (λ xs. alike-refl (each_of decoded xs))
      (λ x xs ys h. one-skip (decoded x) (each_of decoded xs) (each_of decoded ys) h)
      (λ x y xs. one-turn (decoded x) (decoded y) (each_of decoded xs))
      (λ xs ys zs. alike-trans (each_of decoded xs) (each_of decoded ys) (each_of decoded zs))

module _ {X : Type 0} (p : X → Bool) where
  kept : (b c : Bool) (x y : X) (zs : List X) → IsPermutation (cond b (x ∷ cond c (y ∷ zs) zs) (cond c (y ∷ zs) zs)) (cond c (y ∷ cond b (x ∷ zs) zs) (cond b (x ∷ zs) zs))
  kept true true x y zs = IsPermutation-middle (x ∷ []) y zs
  kept true false x y zs = IsPermutation-refl (x ∷ zs)
  kept false true x y zs = IsPermutation-refl (y ∷ zs)
  kept false false x y zs = IsPermutation-refl zs

  kept_under : (b : Bool) (x : X) (xs ys : List X) → IsPermutation xs ys → IsPermutation (cond b (x ∷ xs) xs) (cond b (x ∷ ys) ys)
  kept_under true x xs ys h = IsPermutation-cons x xs ys h
  kept_under false x xs ys h = h

  pub IsPermutation-filter : (xs ys : List X) → IsPermutation xs ys → IsPermutation (filter p xs) (filter p ys)
  IsPermutation-filter = along_permutation (λ xs ys. IsPermutation (filter p xs) (filter p ys))
      (λ xs. IsPermutation-refl (filter p xs))
      (λ x xs ys h. kept_under (p x) x (filter p xs) (filter p ys) h)
      (λ x y xs. kept (p x) (p y) x y (filter p xs))
      (λ xs ys zs. IsPermutation-trans (filter p xs) (filter p ys) (filter p zs))

-- ---- what a sort makes of it

module _ {X : Type 0} (before : X → X → Bool) where
  stays_first : (x : X) (ys : List X) → list_all (before x) ys ≡ true → insert_by before x ys ≡ x ∷ ys
  stays_first x [] k = refl
  stays_first x (y ∷ ys) k = ap (λ b. cond b (x ∷ y ∷ ys) (y ∷ insert_by before x ys)) (and_parts (before x y) (list_all (before x) ys) k).0

  -- what is in order stays as it is
  pub sorted_in_order : (xs : List X) → each_two before xs ≡ true → sorted before xs ≡ xs
  sorted_in_order [] h = refl
  sorted_in_order (x ∷ xs) h =
      let both = and_parts (list_all (before x) xs) (each_two before xs) h in
      ap (insert_by before x) (sorted_in_order xs both.1) ∙ stays_first x xs both.0

module _ {X : Type 0} (before : X → X → Bool) (o : IsStrictWeakOrder before) where
  first : (x z : X) (zs : List X) → before x z ≡ true → insert_by before x (z ∷ zs) ≡ x ∷ z ∷ zs
  first x z zs h = ap (λ b. cond b (x ∷ z ∷ zs) (z ∷ insert_by before x zs)) h

  later : (x z : X) (zs : List X) → before x z ≡ false → insert_by before x (z ∷ zs) ≡ z ∷ insert_by before x zs
  later x z zs h = ap (λ b. cond b (x ∷ z ∷ zs) (z ∷ insert_by before x zs)) h

  -- Of two elements of which one comes before the other, either may come into its place first.
  pub insert_by-comm : (x y : X) → before x y ≡ true → (zs : List X) → insert_by before x (insert_by before y zs) ≡ insert_by before y (insert_by before x zs)
  insert_by-comm x y h [] = first x y [] h ∙ sym (later y x [] (o.one_way x y h))
  insert_by-comm x y h (z ∷ zs) = by (cases_Bool (before y z)) (cases_Bool (before x z)) (insert_by-comm x y h zs)
    where
      by : (before y z ≡ true) ⊎ (before y z ≡ false) → (before x z ≡ true) ⊎ (before x z ≡ false) → insert_by before x (insert_by before y zs) ≡ insert_by before y (insert_by before x zs)
          → insert_by before x (insert_by before y (z ∷ zs)) ≡ insert_by before y (insert_by before x (z ∷ zs))
      by (inl k) l more =
          ap (insert_by before x) (first y z zs k) ∙ first x y (z ∷ zs) h
          ∙ sym (ap (insert_by before y) (first x z zs (before_trans before o x y z h k)) ∙ later y x (z ∷ zs) (o.one_way x y h) ∙ ap (λ l. x ∷ l) (first y z zs k))
      by (inr k) (inl l) more =
          ap (insert_by before x) (later y z zs k) ∙ first x z (insert_by before y zs) l
          ∙ sym (ap (insert_by before y) (first x z zs l) ∙ later y x (z ∷ zs) (o.one_way x y h) ∙ ap (λ l. x ∷ l) (later y z zs k))
      by (inr k) (inr l) more =
          ap (insert_by before x) (later y z zs k) ∙ later x z (insert_by before y zs) l ∙ ap (λ l. z ∷ l) more
          ∙ sym (ap (insert_by before y) (later x z zs l) ∙ later y z (insert_by before x zs) k)

  -- one of both comes before the other
  abbrev pub differs : X → X → Bool
  differs x y = before x y || before y x

  pub or-comm : (b c : Bool) → (b || c) ≡ (c || b)
  or-comm true true = refl
  or-comm true false = refl
  or-comm false true = refl
  or-comm false false = refl

  pub in_order_differ : (xs : List X) → each_two before xs ≡ true → each_two differs xs ≡ true
  in_order_differ [] h = refl
  in_order_differ (x ∷ xs) h =
      let both = and_parts (list_all (before x) xs) (each_two before xs) h in
      and_from (list_all (differs x) xs) (each_two differs xs) (all_weaker (before x) (differs x) xs (λ y k. or_left (before x y) (before y x) k) both.0) (in_order_differ xs both.1)

  -- Where neither comes before the other, no list that has both is in order.
  tied : (x y : X) (zs : List X) → before x y ≡ false → before y x ≡ false → each_two before (insert_by before x (insert_by before y zs)) ≡ false
  tied x y zs h k = false_from_ne_true (each_two before (insert_by before x (insert_by before y zs))) (λ t.
      let same : IsPermutation (x ∷ y ∷ zs) (insert_by before x (insert_by before y zs)) =
      IsPermutation-trans (x ∷ y ∷ zs) (x ∷ insert_by before y zs) (insert_by before x (insert_by before y zs))
      (IsPermutation-cons x (y ∷ zs) (insert_by before y zs) (IsPermutation-insert_by before y zs)) (IsPermutation-insert_by before x (insert_by before y zs)) in
      let two = (each_two-permutation differs (λ a b. or-comm (before a b) (before b a)) (x ∷ y ∷ zs) (insert_by before x (insert_by before y zs)) same).0 ∙ in_order_differ (insert_by before x (insert_by before y zs)) t in
      both_ways (differs x y) (or_from (before x y) (before y x) h k) (and_parts (differs x y) (list_all (differs x) zs) (and_parts (list_all (differs x) (y ∷ zs)) (each_two differs (y ∷ zs)) two).0).0)

  -- one list is made of both, or neither comes into order
  abbrev pub SortAlike : List X → List X → Type 0
  SortAlike xs ys = (sorted before xs ≡ sorted before ys) ⊎ ((each_two before (sorted before xs) ≡ false) × (each_two before (sorted before ys) ≡ false))

  alike_skip : (x : X) (xs ys : List X) → SortAlike xs ys → SortAlike (x ∷ xs) (x ∷ ys)
  alike_skip x xs ys (inl e) = inl (ap (insert_by before x) e)
  alike_skip x xs ys (inr f) = inr (still xs f.0, still ys f.1)
    where
      still : (zs : List X) → each_two before (sorted before zs) ≡ false → each_two before (sorted before (x ∷ zs)) ≡ false
      still zs g = false_from_ne_true (each_two before (sorted before (x ∷ zs))) (λ t. both_ways (each_two before (sorted before zs)) g (order_of_others before x (sorted before zs) t))

  alike_turn : (x y : X) (zs : List X) → SortAlike (x ∷ y ∷ zs) (y ∷ x ∷ zs)
  alike_turn x y zs = by (cases_Bool (before x y)) (cases_Bool (before y x))
    where
      by : (before x y ≡ true) ⊎ (before x y ≡ false) → (before y x ≡ true) ⊎ (before y x ≡ false) → SortAlike (x ∷ y ∷ zs) (y ∷ x ∷ zs)
      by (inl h) k = inl (insert_by-comm x y h (sorted before zs))
      by (inr h) (inl k) = inl (sym (insert_by-comm y x k (sorted before zs)))
      by (inr h) (inr k) = inr (tied x y (sorted before zs) h k, tied y x (sorted before zs) k h)

  alike_chain : (xs ys zs : List X) → SortAlike xs ys → SortAlike ys zs → SortAlike xs zs
  alike_chain xs ys zs (inl e) (inl f) = inl (e ∙ f)
  alike_chain xs ys zs (inl e) (inr g) = inr (ap (each_two before) e ∙ g.0, g.1)
  alike_chain xs ys zs (inr g) (inl f) = inr (g.0, ap (each_two before) (sym f) ∙ g.1)
  alike_chain xs ys zs (inr g) (inr k) = inr (g.0, k.1)

  pub sort_alike : (xs ys : List X) → IsPermutation xs ys → SortAlike xs ys
  sort_alike = along_permutation SortAlike (λ xs. inl refl) alike_skip alike_turn alike_chain

  -- Where one comes into order, both come into the same.
  pub same_sorted : (xs ys : List X) → IsPermutation xs ys → each_two before (sorted before xs) ≡ true → sorted before xs ≡ sorted before ys
  same_sorted xs ys same h = by (sort_alike xs ys same)
    where
      by : SortAlike xs ys → sorted before xs ≡ sorted before ys
      by (inl e) = e
      by (inr f) = absurd (both_ways (each_two before (sorted before xs)) f.0 h)

  -- One comes into order where the other does.
  pub both_in_order : (xs ys : List X) → IsPermutation xs ys → each_two before (sorted before xs) ≡ each_two before (sorted before ys)
  both_in_order xs ys same = by (sort_alike xs ys same)
    where
      by : SortAlike xs ys → each_two before (sorted before xs) ≡ each_two before (sorted before ys)
      by (inl e) = ap (each_two before) e
      by (inr f) = f.0 ∙ sym f.1

  -- What is in order is what its elements, in any order, are sorted to.
  pub sorted_is : (xs ys : List X) → each_two before xs ≡ true → IsPermutation xs ys → sorted before ys ≡ xs
  sorted_is xs ys h same = let here = sorted_in_order before xs h in sym (same_sorted xs ys same (ap (each_two before) here ∙ h)) ∙ here

  -- ---- a table

  pub failed : (t : Table) (test : List X → Bool) → ((xs : List X) → test xs ≡ true → each_two before xs ≡ true) → (xs : List X) → each_two before xs ≡ false → read t (Some xs) test ≡ Err t
  failed t test asks xs f = ap (λ b. cond b (Ok xs) (Err t)) (false_from_ne_true (test xs) (λ k. both_ways (each_two before xs) f (asks xs k)))

  read_sorted : (t : Table) (test : List X → Bool) → ((xs : List X) → test xs ≡ true → each_two before xs ≡ true) → (a b : Option (List X)) → AreAlike a b
      → read t (option.◌>>=◌ a (λ xs. Some (sorted before xs))) test ≡ read t (option.◌>>=◌ b (λ xs. Some (sorted before xs))) test
  read_sorted t test asks None None h = refl
  read_sorted t test asks None (Some ys) h = absurd h
  read_sorted t test asks (Some xs) None h = absurd h
  read_sorted t test asks (Some xs) (Some ys) h = by (sort_alike xs ys h)
    where
      by : SortAlike xs ys → read t (Some (sorted before xs)) test ≡ read t (Some (sorted before ys)) test
      by (inl e) = ap (λ zs. read t (Some zs) test) e
      by (inr f) = failed t test asks (sorted before xs) f.0 ∙ sym (failed t test asks (sorted before ys) f.1)

  -- A table whose test asks for order reads the same of its rows in any order.
  pub read_alike : {Row : Type 0} (t : Table) (decoded : Row → Option X) (test : List X → Bool) → ((xs : List X) → test xs ≡ true → each_two before xs ≡ true)
      → (xs ys : List Row) → IsPermutation xs ys → read t (each_sorted before decoded xs) test ≡ read t (each_sorted before decoded ys) test
  read_alike t decoded test asks xs ys same = read_sorted t test asks (each_of decoded xs) (each_of decoded ys) (each_of-permutation decoded xs ys same)
