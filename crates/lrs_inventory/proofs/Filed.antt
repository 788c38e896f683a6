-- Registers made of the rows of a list.
use Rattle.std.proofs.Common.{◌≡◌, Bool, true, false, cond, List, [], ◌∷◌, map, Some, refl, sym, ap, ◌∙◌}
use Rattle.std.specs.List as list
use Rattle.std.specs.declared.cmp.Ordering.{Ordering}
use Rattle.std.specs.declared.cmp.Ordering.TheVariants.{Less, Equal, Greater}
use Rattle.std.specs.Ordering.{is_lt, is_eq, eq_by_cmp}
use Rattle.std.specs.Cmp.{IsTotalOrder, Equal-is, eq_by_cmp_equiv}
use Rattle.std.specs.FinMap.{find, IsAntisymmetric}
use Rattle.std.specs.Prelude.{is_some, ◌||◌}
use Rattle.std.specs.List.{list_any}
use Rattle.std.specs.Option.{option_map}
use Rattle.std.specs.Cmp.Lexicographic.{nat_list_cmp_total, texts_ties}
use Rattle.lrs_inventory.specs.Prelude.{Name, name_cmp, same_name, insert_by}
use Rattle.lrs_machine.specs.Register.{by_order, put}
use Rattle.std.proofs.lemmas.Bool.{false≢true}

-- a row's key and value
module _ {K X Row : Type 0} {R : K → K → Ordering} (total : IsTotalOrder R) (exact : IsAntisymmetric R) (entry : Row → K × X) where
  -- whether a row has the key
  abbrev pub is_row : K → Row → Bool
  is_row q row = eq_by_cmp R q (entry row).0

  pub is_some-find_row : (rows : List Row) (q : K) → is_some (find R q (map entry rows)) ≡ list_any (is_row q) rows
  is_some-find_row [] q = refl
  is_some-find_row (r ∷ rows) q =
      elim (is_row q r) as (λ b. is_some (cond b (Some (entry r).1) (find R q (map entry rows))) ≡ (b || list_any (is_row q) rows)) [ true ↦ refl | false ↦ is_some-find_row rows q ]

  -- The row of a key is found where its value is.
  pub find_row : (rows : List Row) (q : K) → find R q (map entry rows) ≡ option_map (λ r. (entry r).1) (list.find (λ r. is_eq (R (entry r).0 q)) rows)
  find_row [] q = refl
  find_row (r ∷ rows) q =
      ap (λ b. cond b (Some (entry r).1) (find R q (map entry rows))) ((eq_by_cmp_equiv total).symm q (entry r).0)
      ∙ elim (eq_by_cmp R (entry r).0 q) as (λ b. cond b (Some (entry r).1) (find R q (map entry rows)) ≡ option_map (λ r. (entry r).1) (cond b (Some r) (list.find (λ r. is_eq (R (entry r).0 q)) rows))) [
        | true ↦ refl
        | false ↦ find_row rows q
      ]

  -- ... with the key itself
  pub find_entry : (rows : List Row) (q : K) → option_map (λ v. (q, v)) (find R q (map entry rows)) ≡ option_map entry (list.find (λ r. is_eq (R (entry r).0 q)) rows)
  find_entry [] q = refl
  find_entry (r ∷ rows) q =
      ap (λ b. option_map (λ v. (q, v)) (cond b (Some (entry r).1) (find R q (map entry rows)))) ((eq_by_cmp_equiv total).symm q (entry r).0)
      ∙ elim (eq_by_cmp R (entry r).0 q) as (λ b. eq_by_cmp R (entry r).0 q ≡ b → option_map (λ v. (q, v)) (cond b (Some (entry r).1) (find R q (map entry rows))) ≡ option_map entry (cond b (Some r) (list.find (λ r. is_eq (R (entry r).0 q)) rows))) [
        | true ↦ λ same. ap (λ k. Some (k, (entry r).1)) (sym (exact (entry r).0 q ((Equal-is _).0 same)))
        | false ↦ λ apart. find_entry rows q
      ] refl

  -- A new row is put where the list's order puts it.
  pub put-insert_by : (before : Row → Row → Bool) → ((a b : Row) → before a b ≡ is_lt (R (entry a).0 (entry b).0)) → (x : Row) (rows : List Row) → list_any (is_row (entry x).0) rows ≡ false
      → put R (entry x).0 (entry x).1 (map entry rows) ≡ map entry (insert_by before x rows)
  put-insert_by before agree x [] fresh = refl
  put-insert_by before agree x (y ∷ rows) fresh =
      by (R (entry x).0 (entry y).0) (before x y) (agree x y) (put-insert_by before agree x rows) fresh
    where
      by : (o : Ordering) (b : Bool) → b ≡ is_lt o
          → (list_any (is_row (entry x).0) rows ≡ false → put R (entry x).0 (entry x).1 (map entry rows) ≡ map entry (insert_by before x rows))
          → (is_eq o || list_any (is_row (entry x).0) rows) ≡ false
          → by_order o (entry x ∷ entry y ∷ map entry rows) (((entry y).0, (entry x).1) ∷ map entry rows) (entry y ∷ put R (entry x).0 (entry x).1 (map entry rows))
          ≡ map entry (cond b (x ∷ y ∷ rows) (y ∷ insert_by before x rows))
      by Less true e rest f = refl
      by Less false e rest f = absurd (false≢true e)
      by Equal b e rest f = absurd (false≢true (sym f))
      by Greater true e rest f = absurd (false≢true (sym e))
      by Greater false e rest f = ap (λ es. entry y ∷ es) (rest f)

-- rows that tie with a name are those that have it
pub names_tie : {Row : Type 0} (name : Row → Name) (q : Name) (rows : List Row) → list_any (λ r. eq_by_cmp name_cmp q (name r)) rows ≡ list_any (λ r. same_name (name r) q) rows
names_tie name q [] = refl
names_tie name q (r ∷ rows) = λ j. ((eq_by_cmp_equiv nat_list_cmp_total).symm q (name r) ∙ sym (texts_ties (name r) q)) j || names_tie name q rows j
