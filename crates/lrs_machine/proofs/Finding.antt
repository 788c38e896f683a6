-- Rows that are found by their keys.
use Rattle.std.proofs.Common.{◌≡◌, ℕ, Bool, true, false, cond, inl, inr, List, [], ◌∷◌, map, Some, refl, sym, ap, ◌∙◌}
use Rattle.std.specs.Prelude.{is_some, nat_lt, nat_eq}
use Rattle.std.specs.List.{list_all}
use Rattle.std.specs.declared.cmp.Ordering.{Ordering}
use Rattle.std.specs.declared.cmp.Ordering.TheVariants.{Less, Equal, Greater}
use Rattle.std.specs.Ordering.{eq_by_cmp, is_eq, is_lt, nat_cmp, ordering_reverse}
use Rattle.std.specs.Cmp.{IsTotalOrder, Equal-is, tied_itself}
use Rattle.std.specs.FinMap.{find}
use Rattle.std.proofs.lemmas.Bool.{false≢true, and_parts}
use Rattle.std.proofs.lemmas.Cmp.{nat_cmp_total}
use Rattle.std.proofs.lemmas.Map.Lookups.{CmpEqualImpliesEq}
use Rattle.lrs_measure.specs.Lists.{each_two, In}
use Rattle.lrs_measure.proofs.Members.{all_at}

-- Rows by their keys.
module _ {K X : Type 0} {R : K → K → Ordering} where
  -- a row that is found is one of the rows
  pub find_found : CmpEqualImpliesEq R → (q : K) (v : X) (es : List (K × X)) → find R q es ≡ Some v → In (q, v) es
  find_found exact q v [] h = absurd (cc)
  find_found exact q v (e ∷ es) h =
      elim (eq_by_cmp R q e.0) as (λ b. eq_by_cmp R q e.0 ≡ b → cond b (Some e.1) (find R q es) ≡ Some v → In (q, v) (e ∷ es)) [
        | true ↦ λ same is. inl (pair (exact q e.0 ((Equal-is _).0 same)) (value is))
        | false ↦ λ other is. inr (find_found exact q v es is)
      ] refl h
    where
      value : Some e.1 ≡ Some v → v ≡ e.1
      value is = cc

      pair : q ≡ e.0 → v ≡ e.1 → (q, v) ≡ e
      pair j k = λ i. (j i, k i)

  -- a key that some row has is found
  pub find_known : IsTotalOrder R → (q : K) (v : X) (es : List (K × X)) → In (q, v) es → is_some (find R q es) ≡ true
  find_known total q v [] m = absurd m
  find_known total q v (e ∷ es) (inl same) =
      ap (λ b. is_some (cond b (Some e.1) (find R q es))) (ap (λ r. eq_by_cmp R q r.0) (sym same) ∙ ap is_eq (tied_itself total q))
  find_known total q v (e ∷ es) (inr m) =
      elim (eq_by_cmp R q e.0) as (λ b. is_some (cond b (Some e.1) (find R q es)) ≡ true) [ true ↦ refl | false ↦ find_known total q v es m ]

-- to be less and to be before in the order of numbers are one
numbers_agree : (m n : ℕ) → nat_lt m n ≡ is_lt (nat_cmp m n)
numbers_agree m n = by (nat_lt m n) (nat_eq m n)
  where
    by : (b c : Bool) → b ≡ is_lt (cond b Less (cond c Equal Greater))
    by true c = refl
    by false true = refl
    by false false = refl

-- Rows in the order of their keys.
module _ {K Row X : Type 0} {R : K → K → Ordering} (total : IsTotalOrder R) (key : Row → K) (value : Row → X) where
  abbrev before : Row → Row → Bool
  before a b = is_lt (R (key a) (key b))

  other : (o : Ordering) → is_lt o ≡ true → is_eq (ordering_reverse o) ≡ false
  other Less h = refl
  other Equal h = absurd (false≢true h)
  other Greater h = absurd (false≢true h)

  -- a later row has another key
  later_key : (a b : Row) → before a b ≡ true → eq_by_cmp R (key b) (key a) ≡ false
  later_key a b h = ap is_eq (total.antisymm (key b) (key a)) ∙ other (R (key a) (key b)) h

  -- the row of a key is the one that is found
  pub find_member : (r : Row) (rows : List Row) → each_two before rows ≡ true → In r rows → find R (key r) (map (λ r. (key r, value r)) rows) ≡ Some (value r)
  find_member r [] h m = absurd m
  find_member r (y ∷ ys) h (inl e) =
      ap (λ b. cond b (Some (value y)) (find R (key r) (map (λ r. (key r, value r)) ys))) (ap (λ z. eq_by_cmp R (key r) (key z)) (sym e) ∙ ap is_eq (tied_itself total (key r))) ∙ ap (λ z. Some (value z)) (sym e)
  find_member r (y ∷ ys) h (inr m) =
      let both = and_parts (list_all (before y) ys) (each_two before ys) h in
      ap (λ b. cond b (Some (value y)) (find R (key r) (map (λ r. (key r, value r)) ys))) (later_key y r (all_at (before y) r ys both.0 m)) ∙ find_member r ys both.1 m

-- ... and in the order of their numbers
pub find_numbered : {Row X : Type 0} (key : Row → ℕ) (value : Row → X) (r : Row) (rows : List Row) → each_two (λ a b. nat_lt (key a) (key b)) rows ≡ true → In r rows
    → find nat_cmp (key r) (map (λ r. (key r, value r)) rows) ≡ Some (value r)
find_numbered key value r rows h m = find_member nat_cmp_total key value r rows (sym (ap (λ t. each_two t rows) (λ j a b. numbers_agree (key a) (key b) j)) ∙ h) m
