-- The name of a text among names in their order.
use Rattle.std.proofs.Common.{◌≡◌, ℕ, ◌+◌, ◌<◌, ◌≤◌, true, false, ◌⊎◌, inl, inr, List, length, get_or, Some, None, sym, ap, subst, ◌∙◌, arith}
use Rattle.std.specs.List.Sorted.{IsSortedBy, IsPartitionedBy, IsPartitionPoint}
use Rattle.std.specs.Cmp.Lexicographic.{bytes_decides}
use Rattle.std.proofs.lemmas.Bool.{both_ways, cases_lt, false_from_ne_true, true_from_ne_false}
use Rattle.std.proofs.lemmas.List.Sorted.{sorted_far}
use Rattle.lrs_measure.specs.Lists.{In, each_two}
use Rattle.lrs_measure.specs.Texts.{Name, same_name, name_before}
use Rattle.lrs_measure.proofs.Members.{any_found, any_of}
use Rattle.lrs_measure.proofs.Places.{two_pass, place_in, member_at}
use Rattle.lrs_events.proofs.LaneLists.Ranks.{itself}
use Rattle.lrs_store_tables.specs.Contents.Decoders.{only_if}
use Rattle.lrs_store_image.specs.DecodedRoutes.Marks.{is_name_of}
use Rattle.lrs_store_image.proofs.DecodedRoutes.Grouped.{names_rank, names_tell}

pub names_sorted : (names : List Name) → each_two name_before names ≡ true → IsSortedBy name_before names
names_sorted names h = λ k d low next. names_rank.one_way (get_or names k d) (get_or names (k + 1) d) (two_pass name_before names k (k + 1) d h (omega arith) next)

module _ (names : List Name) (up : IsSortedBy name_before names) (text : Name) where
  pub parted_names : IsPartitionedBy (λ n. name_before n text) names
  parted_names i j d le within passes =
      true_from_ne_false (name_before (get_or names i d) text) (λ f. both_ways (name_before (get_or names j d) text)
      (names_rank.chain (get_or names j d) (get_or names i d) text (sorted_far name_before names_rank names up i j d le within) f) passes)

  module _ (at : ℕ) (point : IsPartitionPoint (λ n. name_before n text ≡ true) (λ n. name_before n text ≡ false) names at) where
    not_below : (k : ℕ) (d : Name) → k < at → get_or names k d ≡ text → ⊥
    not_below k d l e = both_ways (name_before text text) (itself name_before names_rank text) (ap (λ n. name_before n text) (sym e) ∙ point.0 k d (omega arith) l)

    none_of : ((k : ℕ) (d : Name) → at ≤ k → k < length names → get_or names k d ≡ text → ⊥) → is_name_of names text ≡ false
    none_of not_above = false_from_ne_true (is_name_of names text) (λ t.
        let x = any_found (λ n. same_name n text) names t in
        let here = place_in x.0 names x.1 in
        let same : get_or names here.0 text ≡ text = here.2 text ∙ (bytes_decides x.0 text).0 x.2 in
        by here.0 here.1 same (cases_lt here.0 at))
      where
        by : (k : ℕ) → k < length names → get_or names k text ≡ text → (k < at) ⊎ (at ≤ k) → ⊥
        by k inside same (inl l) = not_below k text l same
        by k inside same (inr g) = not_above k text g inside same

    pub past_all : at ≡ length names → None ≡ only_if (is_name_of names text) text
    past_all e = sym (ap (λ b. only_if b text) (none_of (λ k d g inside same. absurd (omega (arith, e, g, inside)))))

    module _ (name : Name) (inside : at < length names) (is : (d : Name) → get_or names at d ≡ name) where
      pub other_name : same_name name text ≡ false → None ≡ only_if (is_name_of names text) text
      other_name f = sym (ap (λ b. only_if b text) (none_of (λ k d g within same.
          let behind : name_before text name ≡ false = (λ j. name_before (sym same j) (sym (is d) j)) ∙ sorted_far name_before names_rank names up at k d g within in
          let before : name_before name text ≡ false = ap (λ n. name_before n text) (sym (is d)) ∙ point.1 at d (omega arith) inside in
          both_ways (same_name name text) f (names_tell name text before behind))))

      pub this_name : same_name name text ≡ true → Some name ≡ only_if (is_name_of names text) text
      this_name t =
          ap Some ((bytes_decides name text).0 t)
          ∙ sym (ap (λ b. only_if b text) (any_of (λ n. same_name n text) name names (subst (λ n. In n names) (is name) (member_at names at name inside)) t))
