-- What a sort of Rust makes of rows in any order is what the definition sorts.
use Rattle.std.proofs.Common.{◌≡◌, Bool, true, false, ◌⊎◌, inl, inr, List, [], ◌∷◌, not, Option, Some, refl, sym, ap, ◌∙◌, IsPermutation}
use Rattle.std.specs.Prelude.{◌||◌}
use Rattle.std.specs.Cmp.{IsStrictWeakOrder, both_ways}
use Rattle.std.specs.List.{list_all}
use Rattle.std.specs.List.Sorted.{IsSortedBy}
use Rattle.std.proofs.lemmas.Bool.{and_parts, and_from, cases_Bool}
use Rattle.std.proofs.lemmas.List.Sorted.{IsPermutation-refl, IsPermutation-sym, IsPermutation-cons, IsPermutation-trans}
use Rattle.lrs_measure.specs.Lists.{each_two}
use Rattle.lrs_events.proofs.LaneLists.Inserted.{IsPermutation-insert_by}
use Rattle.lrs_events.proofs.LaneLists.Strict.{not_behind, sorted_two}
use Rattle.lrs_machine.specs.declared.table.Table.{Table}
use Rattle.lrs_image_sound.proofs.Sweeping.{each_two-permutation}
use Rattle.lrs_store_tables.specs.Contents.Decoders.{each_of, each_sorted, sorted}
use Rattle.lrs_store_tables.specs.Contents.Decoders as option
use Rattle.lrs_store_tables.specs.Contents.Content.{read}
use Rattle.lrs_store_tables.proofs.Contents.Unordered.{differs, or-comm, in_order_differ, sorted_is, failed, read_alike}

module _ {X : Type 0} (before : X → X → Bool) where
  pub IsPermutation-sorted : (xs : List X) → IsPermutation xs (sorted before xs)
  IsPermutation-sorted [] = IsPermutation-refl []
  IsPermutation-sorted (x ∷ xs) =
      IsPermutation-trans (x ∷ xs) (x ∷ sorted before xs) (sorted before (x ∷ xs)) (IsPermutation-cons x xs (sorted before xs) (IsPermutation-sorted xs)) (IsPermutation-insert_by before x (sorted before xs))

module _ {X : Type 0} (before : X → X → Bool) (o : IsStrictWeakOrder before) where
  then_before : (b c : Bool) → (b || c) ≡ true → not c ≡ true → b ≡ true
  then_before true c h k = refl
  then_before false true h k = k
  then_before false false h k = h

  all_before : (x : X) (ys : List X) → list_all (differs before o x) ys ≡ true → list_all (not_behind before o x) ys ≡ true → list_all (before x) ys ≡ true
  all_before x [] h k = refl
  all_before x (y ∷ ys) h k =
      let a = and_parts (differs before o x y) (list_all (differs before o x) ys) h in
      let b = and_parts (not_behind before o x y) (list_all (not_behind before o x) ys) k in
      and_from (before x y) (list_all (before x) ys) (then_before (before x y) (before y x) a.0 b.0) (all_before x ys a.1 b.1)

  -- elements of which no two tie are in order where none is behind a later one
  two_before : (xs : List X) → each_two (differs before o) xs ≡ true → each_two (not_behind before o) xs ≡ true → each_two before xs ≡ true
  two_before [] h k = refl
  two_before (x ∷ xs) h k =
      let a = and_parts (list_all (differs before o x) xs) (each_two (differs before o) xs) h in
      let b = and_parts (list_all (not_behind before o x) xs) (each_two (not_behind before o) xs) k in
      and_from (list_all (before x) xs) (each_two before xs) (all_before x xs a.0 b.0) (two_before xs a.1 b.1)

  -- What a sort gives is in order where the definition's sort is.
  pub sort_in_order : (xs zs : List X) → IsPermutation xs zs → IsSortedBy before zs → each_two before zs ≡ each_two before (sorted before xs)
  sort_in_order xs zs same up = both_ways (each_two before zs) (each_two before (sorted before xs)) there back
    where
      there : each_two before zs ≡ true → each_two before (sorted before xs) ≡ true
      there h = ap (each_two before) (sorted_is before o zs xs h (IsPermutation-sym xs zs same)) ∙ h

      back : each_two before (sorted before xs) ≡ true → each_two before zs ≡ true
      back h =
          let all : IsPermutation (sorted before xs) zs = IsPermutation-trans (sorted before xs) xs zs (IsPermutation-sym xs (sorted before xs) (IsPermutation-sorted before xs)) same in
          two_before zs (sym (each_two-permutation (differs before o) (λ a b. or-comm before o (before a b) (before b a)) (sorted before xs) zs all).0 ∙ in_order_differ before o (sorted before xs) h) (sorted_two before o zs up)

  -- A table whose test asks for order reads what a sort gives of its rows as they come.
  pub read_by_sort : {Row : Type 0} (t : Table) (decoded : Row → Option X) (test : List X → Bool) → ((xs : List X) → test xs ≡ true → each_two before xs ≡ true)
      → (xs ys : List Row) → IsPermutation xs ys → (us zs : List X) → each_of decoded ys ≡ Some us → IsPermutation us zs → IsSortedBy before zs
      → read t (each_sorted before decoded xs) test ≡ read t (Some zs) test
  read_by_sort t decoded test asks xs ys same us zs is made up =
      read_alike before o t decoded test asks xs ys same ∙ ap (λ a. read t (option.◌>>=◌ a (λ l. Some (sorted before l))) test) is ∙ by (cases_Bool (each_two before zs))
    where
      by : (each_two before zs ≡ true) ⊎ (each_two before zs ≡ false) → read t (Some (sorted before us)) test ≡ read t (Some zs) test
      by (inl h) = ap (λ l. read t (Some l) test) (sorted_is before o zs us h (IsPermutation-sym us zs made))
      by (inr f) = failed before o t test asks (sorted before us) (sym (sort_in_order us zs made up) ∙ f) ∙ sym (failed before o t test asks zs f)
