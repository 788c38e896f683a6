-- Numbered rows: counted one by one, and read by what a sort gives of them.
use Rattle.std.proofs.Common.{◌≡◌, ℕ, ◌+◌, Bool, true, false, cond, ◌⊎◌, inl, inr, List, [], ◌∷◌, ◌++◌, map, length, Option, Some, None, Result, Ok, Err, refl, sym, ap, ◌∙◌, arith, IsPermutation}
use Rattle.std.specs.Prelude.{nat_eq, nat_le, is_some}
use Rattle.std.specs.List.{list_all}
use Rattle.std.specs.List.Sorted.{IsSortedBy}
use Rattle.std.proofs.lemmas.Bool.{true≢false, false≢true, both_ways, and_from, cases_Bool, false_from_ne_true, eqb-true, leb-true, le-leb, lt-ltb}
use Rattle.std.proofs.lemmas.List.{append_assoc, append-nil, length-append}
use Rattle.std.proofs.lemmas.List.Sorted.{IsPermutation-sym}
use Rattle.lrs_measure.specs.Lists.{each_two}
use Rattle.lrs_measure.proofs.Members.{all_weaker}
use Rattle.lrs_machine.specs.declared.table.Table.{Table}
use Rattle.lrs_store_tables.specs.Contents.Decoders.{only_if, each_of, each_sorted, sorted, Numbered, number_before, counted}
use Rattle.lrs_store_tables.specs.Contents.Decoders as option
use Rattle.lrs_store_tables.specs.Contents.Content.{read}
use Rattle.lrs_store_image.proofs.Mapped.{each_of-map}
use Rattle.lrs_store_tables.proofs.Contents.Orders.{numbers_rank}
use Rattle.lrs_store_tables.proofs.Contents.Sorts.{sort_in_order}
use Rattle.lrs_store_tables.proofs.Contents.Unordered.{sorted_is}

-- ---- one by one

module _ {X : Type 0} where
  -- what is found behind these
  abbrev pub behind : List X → Option (List X) → Option (List X)
  behind found None = None
  behind found (Some xs) = Some (found ++ xs)

  behind_nothing : (o : Option (List X)) → o ≡ behind [] o
  behind_nothing None = refl
  behind_nothing (Some xs) = refl

  abbrev step : Bool → X → Option (List X) → Option (List X)
  step b x more = option.◌>>=◌ (only_if b x) (λ y. option.◌>>=◌ more (λ ys. Some (y ∷ ys)))

  one_more : (found : List X) (x : X) (more : Option (List X)) → behind found (step true x more) ≡ behind (found ++ x ∷ []) more
  one_more found x None = refl
  one_more found x (Some ys) = ap (λ l. Some l) (sym (append_assoc found (x ∷ []) ys))

  without_length : (rs : List (Numbered X)) → length rs ≡ 0 → rs ≡ []
  without_length [] e = refl
  without_length (r ∷ rs) e = absurd (omega (arith, e))

  -- what is counted of all rows, once these are found and those are left
  abbrev pub IsCounting : List (Numbered X) → List X → List (Numbered X) → Type 0
  IsCounting all found left = counted 1 all ≡ behind found (counted (1 + length found) left)

  module _ (all : List (Numbered X)) (found : List X) (left : List (Numbered X)) where
    pub counting_from : found ≡ [] → left ≡ all → IsCounting all found left
    counting_from e f = behind_nothing (counted 1 all) ∙ (λ j. behind (sym e j) (counted (1 + length (sym e j)) (sym f j)))

    module _ (is : IsCounting all found left) where
      pub counting_ends : length left ≡ 0 → Some found ≡ counted 1 all
      counting_ends e = sym (is ∙ ap (λ l. behind found (counted (1 + length found) l)) (without_length left e) ∙ ap (λ l. Some l) (append-nil found))

      module _ (x : Numbered X) (rest : List (Numbered X)) (first : left ≡ x ∷ rest) where
        pub counting_fails : nat_eq x.n (1 + length found) ≡ false → None ≡ counted 1 all
        counting_fails f = sym (is ∙ ap (λ l. behind found (counted (1 + length found) l)) first ∙ ap (λ b. behind found (step b x.said (counted (1 + length found + 1) rest))) f)

        pub counting_next : (more : List X) → more ≡ found ++ x.said ∷ [] → nat_eq x.n (1 + length found) ≡ true → IsCounting all more rest
        counting_next more made t =
            let longer : length (found ++ x.said ∷ []) ≡ length found + 1 = length-append found (x.said ∷ []) in
            let next : 1 + length found + 1 ≡ 1 + length (found ++ x.said ∷ []) = omega (arith, longer) in
            is ∙ ap (λ l. behind found (counted (1 + length found) l)) first ∙ ap (λ b. behind found (step b x.said (counted (1 + length found + 1) rest))) t
            ∙ one_more found x.said (counted (1 + length found + 1) rest)
            ∙ ap (λ k. behind (found ++ x.said ∷ []) (counted k rest)) next
            ∙ ap (λ l. behind l (counted (1 + length l) rest)) (sym made)

-- ---- numbers that are counted rise

module _ {X : Type 0} where
  parts : (b : Bool) (x : X) (o : Option (List X)) → is_some (step b x o) ≡ true → (b ≡ true) × (is_some o ≡ true)
  parts true x (Some xs) h = (refl, refl)
  parts true x None h = absurd (false≢true h)
  parts false x o h = absurd (false≢true h)

  from_on : (k : ℕ) (rs : List (Numbered X)) → is_some (counted k rs) ≡ true → list_all (λ (s : Numbered X). nat_le k s.n) rs ≡ true
  from_on k [] h = refl
  from_on k (r ∷ rs) h =
      let p = parts (nat_eq r.n k) r.said (counted (k + 1) rs) h in
      let e = eqb-true r.n k p.0 in
      and_from (nat_le k r.n) (list_all (λ (s : Numbered X). nat_le k s.n) rs) (le-leb k r.n (omega (arith, e)))
      (all_weaker (λ (s : Numbered X). nat_le (k + 1) s.n) (λ (s : Numbered X). nat_le k s.n) rs (λ s l. let m = leb-true (k + 1) s.n l in le-leb k s.n (omega (arith, m))) (from_on (k + 1) rs p.1))

  rise : (k : ℕ) (rs : List (Numbered X)) → is_some (counted k rs) ≡ true → each_two number_before rs ≡ true
  rise k [] h = refl
  rise k (r ∷ rs) h =
      let p = parts (nat_eq r.n k) r.said (counted (k + 1) rs) h in
      let e = eqb-true r.n k p.0 in
      and_from (list_all (number_before r) rs) (each_two number_before rs)
      (all_weaker (λ (s : Numbered X). nat_le (k + 1) s.n) (number_before r) rs (λ s l. let m = leb-true (k + 1) s.n l in lt-ltb r.n s.n (omega (arith, e, m))) (from_on (k + 1) rs p.1))
      (rise (k + 1) rs p.1)

  nothing_in : (o : Option (List X)) → is_some o ≡ false → o ≡ None
  nothing_in None h = refl
  nothing_in (Some xs) h = absurd (true≢false h)

  not_in_order : (k : ℕ) (rs : List (Numbered X)) → each_two number_before rs ≡ false → counted k rs ≡ None
  not_in_order k rs f = nothing_in (counted k rs) (false_from_ne_true (is_some (counted k rs)) (λ t. both_ways (each_two number_before rs) f (rise k rs t)))

-- ---- what a sort gives

module _ {X : Type 0} (t : Table) (test : List X → Bool) (xs ys : List (Numbered X)) (same : IsPermutation xs ys) (up : IsSortedBy number_before ys) where
  counted_sorted : counted 1 (sorted number_before xs) ≡ counted 1 ys
  counted_sorted = by (cases_Bool (each_two number_before ys))
    where
      by : (each_two number_before ys ≡ true) ⊎ (each_two number_before ys ≡ false) → counted 1 (sorted number_before xs) ≡ counted 1 ys
      by (inl h) = ap (counted 1) (sorted_is number_before numbers_rank ys xs h (IsPermutation-sym xs ys same))
      by (inr f) = not_in_order 1 (sorted number_before xs) (sym (sort_in_order number_before numbers_rank xs ys same up) ∙ f) ∙ sym (not_in_order 1 ys f)

  pub not_counted : None ≡ counted 1 ys → read t (counted 1 (sorted number_before xs)) test ≡ Err t
  not_counted e = ap (λ o. read t o test) (counted_sorted ∙ sym e)

  module _ (zs : List X) (is : Some zs ≡ counted 1 ys) where
    pub counted_failed : test zs ≡ false → read t (counted 1 (sorted number_before xs)) test ≡ Err t
    counted_failed f = ap (λ o. read t o test) (counted_sorted ∙ sym is) ∙ ap (λ b. cond b (Ok zs) (Err t)) f

    pub counted_passed : test zs ≡ true → read t (counted 1 (sorted number_before xs)) test ≡ Ok zs
    counted_passed h = ap (λ o. read t o test) (counted_sorted ∙ sym is) ∙ ap (λ b. cond b (Ok zs) (Err t)) h

-- ---- what rows say

module _ {Cells Row X : Type 0} (of : Row → Option (Numbered X)) (cells : Cells → Row) (t : Table) (test : List X → Bool) where
  abbrev counting : Option (List (Numbered X)) → Result (List X) Table
  counting o = read t (option.◌>>=◌ (option.◌>>=◌ o (λ xs. Some (sorted number_before xs))) (counted 1)) test

  pub nothing_numbered : (rows : List Cells) → None ≡ each_of (λ r. of (cells r)) rows → read t (option.◌>>=◌ (each_sorted number_before of (map cells rows)) (counted 1)) test ≡ Err t
  nothing_numbered rows e = ap counting (each_of-map of cells rows ∙ sym e)

  pub all_numbered : (rows : List Cells) (xs : List (Numbered X)) → Some xs ≡ each_of (λ r. of (cells r)) rows
      → read t (counted 1 (sorted number_before xs)) test ≡ read t (option.◌>>=◌ (each_sorted number_before of (map cells rows)) (counted 1)) test
  all_numbered rows xs e = sym (ap counting (each_of-map of cells rows ∙ sym e))
