-- The order of values is an order, and tells those that differ.
use Rattle.std.proofs.Common.{◌≡◌, ℕ, Bool, true, false, ◌⊎◌, inl, inr, Option, Some, None, List, [], ◌∷◌, length, map, refl, sym, ap, subst, ◌∙◌, arith}
use Rattle.std.specs.Prelude.{◌&&◌, ◌||◌, nat_eq}
use Rattle.std.specs.Option.{option_cmp, option_eq}
use Rattle.std.specs.declared.cmp.Ordering.{Ordering}
use Rattle.std.specs.declared.cmp.Ordering.TheVariants.{Less, Equal, Greater}
use Rattle.std.specs.Ordering.{is_eq, is_lt, ordering_reverse, ordering_then, eq_by_cmp}
use Rattle.std.specs.Cmp.{IsStrictWeakOrder, IsTotalOrder}
use Rattle.std.specs.Cmp.Lexicographic.{pointwise, lists_total, lists_ties, options_total, nat_list_cmp_total, pointwise_decides, bytes_decides, texts_ties}
use Rattle.std.proofs.lemmas.Bool.{both_ways, false≢true}
use Rattle.std.proofs.lemmas.List.Sorted.{ranks_by}
use Rattle.lrs_measure.specs.Runs.{same_option}
use Rattle.lrs_measure.specs.Texts.{Name, name_before, name_cmp, same_name}
use Rattle.lrs_machine.specs.Segments.{Values, same_values}
use Rattle.lrs_report_answers.specs.declared.combinations.Combination.{Combination}
use Rattle.lrs_report_answers.specs.Combinations.{values_before}
use Rattle.lrs_report_answers.specs.CombinationParts.{has_values, is_ahead, not_behind, values_cmp}

-- ---- equal values

option_equal : (a b : Option Name) → same_option same_name a b ≡ true → a ≡ b
option_equal None None h = refl
option_equal None (Some y) h = absurd (false≢true h)
option_equal (Some x) None h = absurd (false≢true h)
option_equal (Some x) (Some y) h = ap (λ n. Some n) ((bytes_decides x y).0 h)

option_itself : (a : Option Name) → same_option same_name a a ≡ true
option_itself None = refl
option_itself (Some x) = (bytes_decides x x).1 refl

pub values_decide : (xs ys : Values) → (same_values xs ys ≡ true → xs ≡ ys) × (xs ≡ ys → same_values xs ys ≡ true)
values_decide = pointwise_decides (λ a b. (option_equal a b, λ e. subst (λ c. same_option same_name a c ≡ true) e (option_itself a)))

pub values_equal : (xs ys : Values) → same_values xs ys ≡ true → xs ≡ ys
values_equal xs ys = (values_decide xs ys).0

pub values_itself : (xs : Values) → same_values xs xs ≡ true
values_itself xs = (values_decide xs xs).1 refl

-- the test that a program makes
test_same : (a b : Option Name) → option_eq same_name a b ≡ same_option same_name a b
test_same None None = refl
test_same None (Some y) = refl
test_same (Some x) None = refl
test_same (Some x) (Some y) = refl

pub tests_same : (xs ys : Values) → pointwise (option_eq same_name) xs ys ≡ same_values xs ys
tests_same xs ys i = pointwise (λ a b. test_same a b i) xs ys

-- ---- their order

option_ties : (a b : Option Name) → same_option same_name a b ≡ eq_by_cmp (option_cmp name_cmp) a b
option_ties None None = refl
option_ties None (Some y) = refl
option_ties (Some x) None = refl
option_ties (Some x) (Some y) = texts_ties x y

values_tie : (xs ys : Values) → same_values xs ys ≡ eq_by_cmp values_cmp xs ys
values_tie = lists_ties (option_cmp name_cmp) option_ties

values_total : IsTotalOrder values_cmp
values_total = lists_total (options_total nat_list_cmp_total)

first_or_next : (o r : Ordering) (rest : Bool) → rest ≡ is_lt r → (is_lt o || (is_eq o && rest)) ≡ is_lt (ordering_then o r)
first_or_next Less r rest h = refl
first_or_next Equal r rest h = h
first_or_next Greater r rest h = refl

-- of as many values
pub before_as_cmp : (xs ys : Values) → length xs ≡ length ys → values_before xs ys ≡ is_lt (values_cmp xs ys)
before_as_cmp [] [] e = refl
before_as_cmp [] (y ∷ ys) e = absurd (omega (arith, e))
before_as_cmp (x ∷ xs) [] e = absurd (omega (arith, e))
before_as_cmp (None ∷ xs) (None ∷ ys) e = before_as_cmp xs ys (omega (arith, e))
before_as_cmp (None ∷ xs) (Some y ∷ ys) e = refl
before_as_cmp (Some x ∷ xs) (None ∷ ys) e = refl
before_as_cmp (Some x ∷ xs) (Some y ∷ ys) e =
    (λ i. name_before x y || (texts_ties x y i && values_before xs ys)) ∙ first_or_next (name_cmp x y) (values_cmp xs ys) (values_before xs ys) (before_as_cmp xs ys (omega (arith, e)))

-- ---- the order of entries

pub ranks : IsStrictWeakOrder is_ahead
ranks = ranks_by values_total (λ (c : Combination). c.values)

-- two that are alike are not one ahead of the other
pub alike_level : (a b : Combination) → same_values a.values b.values ≡ true → is_ahead a b ≡ false
alike_level a b h = by (values_cmp a.values b.values) (sym (values_tie a.values b.values) ∙ h)
  where
    by : (o : Ordering) → is_eq o ≡ true → is_lt o ≡ false
    by Less e = absurd (false≢true e)
    by Equal e = refl
    by Greater e = refl

-- those of which none is ahead are alike
pub level_alike : (a b : Combination) → is_ahead a b ≡ false → is_ahead b a ≡ false → same_values a.values b.values ≡ true
level_alike a b h k = by (values_cmp a.values b.values) refl
  where
    by : (o : Ordering) → o ≡ values_cmp a.values b.values → same_values a.values b.values ≡ true
    by Less e = absurd (both_ways (is_ahead a b) h (ap is_lt (sym e)))
    by Equal e = values_tie a.values b.values ∙ ap is_eq (sym e)
    by Greater e = absurd (both_ways (is_ahead b a) k (ap is_lt (values_total.antisymm b.values a.values ∙ ap ordering_reverse (sym e))))
