-- Rows in the order of their names: a row of a name that is taken out and put back, and rows whose names are removed.
use Rattle.std.proofs.Common.{◌≡◌, ℕ, ◌+◌, ◌<◌, ◌≤◌, Bool, true, false, cond, List, [], ◌∷◌, Some, filter, drop, get_or, length, refl, sym, ap, ◌∙◌}
use Rattle.std.specs.Prelude.{not, ◌||◌, unwrap_or}
use Rattle.std.specs.List.{find, list_any}
use Rattle.std.specs.declared.cmp.Ordering.{Ordering}
use Rattle.std.specs.declared.cmp.Ordering.TheVariants.{Less, Equal, Greater}
use Rattle.std.specs.Ordering.{is_lt, is_eq, ordering_reverse}
use Rattle.std.proofs.lemmas.Cmp.{nat_list_cmp_total}
use Rattle.std.proofs.lemmas.Bool.{false≢true}
use Rattle.std.proofs.lemmas.Map.Text.{is_eq-slice_cmp}
use Rattle.std.proofs.lemmas.List.{drop_more}
use Rattle.std.proofs.Math.ListN.{drop_of_length-le}
use Rattle.lrs_measure.specs.Lists.{each_two}
use Rattle.lrs_measure.specs.OrderedLists.{insert_some}
use Rattle.lrs_measure.specs.Texts.{Name, name_cmp, name_before, same_name}
use Rattle.lrs_measure.specs.KeyOrder.{name_after}
use Rattle.lrs_image.proofs.PutBack.{put_back}

pub same_some : {A : Type 0} (x y : A) → Some x ≡ Some y → x ≡ y
same_some x y h = ap (λ o. unwrap_or o x) h

less_reversed : (r s : Ordering) → s ≡ ordering_reverse r → is_lt r ≡ true → is_lt s ≡ false
less_reversed Less s e h = ap is_lt e
less_reversed Equal s e h = absurd (false≢true h)
less_reversed Greater s e h = absurd (false≢true h)

equal_not_less : (r : Ordering) → is_eq r ≡ true → is_lt r ≡ false
equal_not_less Less h = absurd (false≢true h)
equal_not_less Equal h = refl
equal_not_less Greater h = refl

-- of two names one comes before the other, not the other way round
pub name_apart : (a b : Name) → name_before a b ≡ true → name_before b a ≡ false
name_apart a b h = less_reversed (name_cmp a b) (name_cmp b a) (nat_list_cmp_total.antisymm b a) h

-- a name that comes after one of two equal names is not the other
other_name : (a b n : Name) → name_before a b ≡ true → same_name a n ≡ true → same_name b n ≡ false
other_name a b n h e = sym (is_eq-slice_cmp b n) ∙ ap is_eq (name_after a b n h (equal_not_less (name_cmp a n) (is_eq-slice_cmp a n ∙ e)))

module _ {X : Type 0} (name : X → Name) where
  abbrev pub before : X → X → Bool
  before x y = name_before (name x) (name y)

  abbrev pub has : Name → X → Bool
  has n x = same_name (name x) n

  -- The row of a name, taken out and put back, is where it was.
  pub back_in_place : (n : Name) (xs : List X) → each_two before xs ≡ true → insert_some before (find (has n) xs) (filter (λ x. not (has n x)) xs) ≡ xs
  back_in_place n xs h =
      put_back before (has n) (λ x y. name_apart (name x) (name y)) (λ x y. other_name (name x) (name y) n) xs h

  -- the rows whose names are none of these
  abbrev pub others : List Name → List X → List X
  others names xs = filter (λ x. not (list_any (same_name (name x)) names)) xs

  -- One name goes after the other.
  pub others-next : (n : Name) (names : List Name) (xs : List X) → others names (filter (λ x. not (has n x)) xs) ≡ others (n ∷ names) xs
  others-next n names [] = refl
  others-next n names (x ∷ xs) =
      elim (has n x) as (λ b. others names (cond (not b) (x ∷ filter (λ y. not (has n y)) xs) (filter (λ y. not (has n y)) xs)) ≡ cond (not (b || list_any (same_name (name x)) names)) (x ∷ others (n ∷ names) xs) (others (n ∷ names) xs)) [
        | true ↦ others-next n names xs
        | false ↦ ap (λ t. cond (not (list_any (same_name (name x)) names)) (x ∷ t) t) (others-next n names xs)
      ]

  pub others-none : (xs : List X) → others [] xs ≡ xs
  others-none [] = refl
  others-none (x ∷ xs) = ap (λ t. x ∷ t) (others-none xs)

  -- a loop's step over the names, and its end
  pub others-step : (names : List Name) (xs next whole : List X) (i : ℕ) (n : Name) → i < length names → n ≡ get_or names i n → next ≡ filter (λ x. not (has n x)) xs
      → others (drop i names) xs ≡ whole → others (drop (i + 1) names) next ≡ whole
  others-step names xs next whole i n h is e rest =
      let later = drop (i + 1) names in
      ap (others later) e ∙ others-next n later xs ∙ ap (λ l. others l xs) (ap (λ m. m ∷ later) is ∙ sym (drop_more names i n h)) ∙ rest

  pub others-end : (names : List Name) (xs whole : List X) (i : ℕ) → length names ≤ i → others (drop i names) xs ≡ whole → xs ≡ whole
  others-end names xs whole i h rest = sym (others-none xs) ∙ ap (λ l. others l xs) (sym (drop_of_length-le names h)) ∙ rest
