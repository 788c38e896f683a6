-- No two lists are the combinations of the same classes on the same routes.
use Rattle.std.proofs.Common.{◌≡◌, Bool, true, false, ◌⊎◌, inl, inr, List, [], ◌∷◌, filter, refl, sym, ap, ◌∙◌}
use Rattle.std.specs.Prelude.{◌||◌}
use Rattle.std.specs.List.{list_all, list_any, AllByRecursion}
use Rattle.std.specs.Ordering.{is_lt}
use Rattle.std.proofs.lemmas.Bool.{both_ways, false≢true, and_parts, or_left, false_from_ne_true}
use Rattle.lrs_measure.specs.Lists.{In, each_two}
use Rattle.lrs_measure.specs.Texts.{Name}
use Rattle.lrs_measure.proofs.Members.{any_found, all_at}
use Rattle.lrs_events.specs.declared.side.LinkSide.TheVariants as side
use Rattle.lrs_machine.specs.declared.image.RouteRow.{RouteRow}
use Rattle.lrs_machine.specs.Image.{state_of}
use Rattle.lrs_machine.specs.Segments.{Values}
use Rattle.lrs_machine.specs.State.{State}
use Rattle.lrs_report_lists.specs.WantedRows.{is_of_route}
use Rattle.lrs_report_answers.specs.declared.combinations.Combination.{Combination}
use Rattle.lrs_report_answers.specs.Combinations.{CombinationsAreUnique, HasLengths, count_on, has_either, has_on}
use Rattle.lrs_report_answers.specs.CombinationParts.{has_values, is_ahead, values_cmp}
use Rattle.lrs_report_answers.proofs.Combined.Order.{alike_level, ranks, values_decide, values_equal, values_itself}
use Rattle.lrs_report_answers.proofs.Combined.Routes.{by_cmp}

found_first : (l : Combination) (ls : List Combination) → list_any (has_values l.values) (l ∷ ls) ≡ true
found_first l ls = or_left (has_values l.values l) (list_any (has_values l.values) ls) (values_itself l.values)

-- what stands behind an entry has other values
none_later : (l : Combination) (ls : List Combination) (v : Values) → list_all (is_ahead l) ls ≡ true → has_values v l ≡ true → list_any (has_values v) ls ≡ false
none_later l ls v order here = false_from_ne_true (list_any (has_values v) ls) (λ h.
    let found = any_found (has_values v) ls h in
    let z = found.0 in
    let same = values_equal l.values v here ∙ sym (values_equal z.values v found.2) in
    both_ways (is_ahead l z) (alike_level l z ((values_decide l.values z.values).1 same)) (all_at (is_ahead l) z ls order found.1))

-- the values of an entry are those of the first, or of a later one
is_first : (x y : Combination) (ys : List Combination) → list_all (is_ahead y) ys ≡ true → list_any (has_values x.values) (y ∷ ys) ≡ true → (has_values x.values y ≡ true) ⊎ (is_ahead y x ≡ true)
is_first x y ys order h =
    let found = any_found (has_values x.values) (y ∷ ys) h in
    by found.0 found.1 found.2
  where
    by : (z : Combination) → In z (y ∷ ys) → has_values x.values z ≡ true → (has_values x.values y ≡ true) ⊎ (is_ahead y x ≡ true)
    by z (inl e) k = inl (ap (has_values x.values) (sym e) ∙ k)
    by z (inr m) k = inr (ap (λ v. is_lt (values_cmp y.values v)) (sym (values_equal z.values x.values k)) ∙ all_at (is_ahead y) z ys order m)

module _ (s : State) (classes : List Name) (routes : List RouteRow) where
  same_entry : (x y : Combination) → HasLengths s classes routes x → HasLengths s classes routes y → has_values x.values y ≡ true → y ≡ x
  same_entry x y hx hy same =
      let values = values_equal y.values x.values same in
      let left = hy.left_is ∙ ap (λ v. count_on (has_on s classes v side.Left) routes) values ∙ sym hx.left_is in
      let right = hy.right_is ∙ ap (λ v. count_on (has_on s classes v side.Right) routes) values ∙ sym hx.right_is in
      let either = hy.length_is ∙ ap (λ v. count_on (has_either s classes v) routes) values ∙ sym hx.length_is in
      λ i. record { values = values i; left = left i; right = right i; length = either i }

  first_same : (x y : Combination) → HasLengths s classes routes x → HasLengths s classes routes y → (has_values x.values y ≡ true) ⊎ (is_ahead y x ≡ true) → (has_values y.values x ≡ true) ⊎ (is_ahead x y ≡ true) → y ≡ x
  first_same x y hx hy (inl e) k = same_entry x y hx hy e
  first_same x y hx hy (inr l) (inl e) = sym (same_entry y x hy hx e)
  first_same x y hx hy (inr l) (inr m) = absurd (both_ways (is_ahead x y) (ranks.one_way y x l) m)

  one_list : (xs ys : List Combination) → each_two is_ahead xs ≡ true → each_two is_ahead ys ≡ true
      → ((v : Values) → list_any (has_values v) xs ≡ list_any (has_values v) ys) → AllByRecursion (HasLengths s classes routes) xs → AllByRecursion (HasLengths s classes routes) ys → ys ≡ xs
  one_list [] [] o p e a b = refl
  one_list [] (y ∷ ys) o p e a b = absurd (false≢true (e y.values ∙ found_first y ys))
  one_list (x ∷ xs) [] o p e a b = absurd (false≢true (sym (e x.values) ∙ found_first x xs))
  one_list (x ∷ xs) (y ∷ ys) o p e a b =
      let up = and_parts (list_all (is_ahead x) xs) (each_two is_ahead xs) o in
      let also = and_parts (list_all (is_ahead y) ys) (each_two is_ahead ys) p in
      let same = first_same x y a.0 b.0 (is_first x y ys also.0 (sym (e x.values) ∙ found_first x xs)) (is_first y x xs up.0 (e y.values ∙ found_first y ys)) in
      λ i. same i ∷ one_list xs ys up.1 also.1 (λ v. rest v same up.0 also.0 (has_values v x) refl) a.1 b.1 i
    where
      rest : (v : Values) → y ≡ x → list_all (is_ahead x) xs ≡ true → list_all (is_ahead y) ys ≡ true → (b : Bool) → has_values v x ≡ b → list_any (has_values v) xs ≡ list_any (has_values v) ys
      rest v same up also true here = none_later x xs v up here ∙ sym (none_later y ys v also (ap (has_values v) same ∙ here))
      rest v same up also false here =
          ap (λ c. c || list_any (has_values v) xs) (sym here) ∙ e v
          ∙ ap (λ c. c || list_any (has_values v) ys) (ap (has_values v) same ∙ here)

pub are_unique : CombinationsAreUnique
are_unique i route classes xs ys one two =
    let s = state_of i in
    let routes = filter (is_of_route route) i.routes in
    one_list s classes routes ys xs (by_cmp s classes routes ys two.exact two.order) (by_cmp s classes routes xs one.exact one.order) (λ v. two.exact v ∙ sym (one.exact v)) two.counts one.counts
