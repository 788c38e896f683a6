-- A table that is sorted and tested reads what the definition sorts and tests.
use Rattle.std.proofs.Common.{◌≡◌, Bool, true, false, cond, ◌⊎◌, inl, inr, List, Some, Ok, Err, sym, ap, ◌∙◌, IsPermutation}
use Rattle.std.specs.List.Sorted.{IsSortedBy}
use Rattle.std.specs.Cmp.{IsStrictWeakOrder}
use Rattle.std.proofs.lemmas.Bool.{cases_Bool}
use Rattle.std.proofs.lemmas.List.Sorted.{IsPermutation-sym}
use Rattle.lrs_measure.specs.Lists.{each_two}
use Rattle.lrs_machine.specs.declared.table.Table.{Table}
use Rattle.lrs_store_tables.specs.Contents.Decoders.{sorted}
use Rattle.lrs_store_tables.specs.Contents.Content.{read}
use Rattle.lrs_store_tables.proofs.Contents.Unordered.{sorted_is, failed as not_in_order}
use Rattle.lrs_store_tables.proofs.Contents.Sorts.{sort_in_order}

module _ {X : Type 0} (before : X → X → Bool) (o : IsStrictWeakOrder before) (t : Table) (test : List X → Bool) (asks : (xs : List X) → test xs ≡ true → each_two before xs ≡ true)
    (xs ys : List X) (same : IsPermutation xs ys) (up : IsSortedBy before ys) where
  read_so : read t (Some (sorted before xs)) test ≡ read t (Some ys) test
  read_so = by (cases_Bool (each_two before ys))
    where
      by : (each_two before ys ≡ true) ⊎ (each_two before ys ≡ false) → read t (Some (sorted before xs)) test ≡ read t (Some ys) test
      by (inl h) = ap (λ l. read t (Some l) test) (sorted_is before o ys xs h (IsPermutation-sym xs ys same))
      by (inr f) = not_in_order before o t test asks (sorted before xs) (sym (sort_in_order before o xs ys same up) ∙ f) ∙ sym (not_in_order before o t test asks ys f)

  pub passed : test ys ≡ true → Ok ys ≡ read t (Some (sorted before xs)) test
  passed h = sym (read_so ∙ ap (λ b. cond b (Ok ys) (Err t)) h)

  pub failed : test ys ≡ false → Err t ≡ read t (Some (sorted before xs)) test
  failed h = sym (read_so ∙ ap (λ b. cond b (Ok ys) (Err t)) h)
