-- Counts of the rows of the ledgers are the totals of the state.
use Rattle.std.proofs.Common.{◌≡◌, ℕ, zero, suc, ◌<◌, Bool, true, false, cond, ◌⊎◌, inl, inr, List, [], ◌∷◌, map, length, get_or, set, Ok, Err, Result, slice_get, refl, sym, ap, ◌∙◌, arith}
use Rattle.std.specs.Prelude.{nat_eq}
use Rattle.std.specs.List.Sorted.{IsBinarySearchResult, IsSearchInRange}
use Rattle.std.specs.Option.{option_map_or}
use Rattle.std.specs.Ordering.{is_eq}
use Rattle.std.specs.declared.cmp.Ordering.TheVariants.{Equal}
use Rattle.std.specs.Cmp.Lexicographic.{nat_list_cmp_total, texts_ties}
use Rattle.std.proofs.lemmas.Bool.{cases_Bool, eqb-true, eqb-false, eq-eqb, ne_eqb}
use Rattle.lrs_measure.specs.Lists.{each_two}
use Rattle.lrs_measure.specs.Texts.{Name, name_cmp, name_before, same_name}
use Rattle.lrs_events.specs.declared.class.Class.{Class}
use Rattle.lrs_machine.specs.Sound.{class_before}
use Rattle.lrs_machine.proofs.Pairs.{each_two-map}
use Rattle.lrs_image_sound.proofs.Keyed.{found}
use Rattle.lrs_report_answers.specs.declared.tallies.tally.Count.{Count}
use Rattle.lrs_report_answers.specs.declared.tallies.tally.CountedSum.{CountedSum}
use Rattle.lrs_report_answers.specs.declared.tallies.tally.CountedSum.TheVariants.{Entered, Retired, Abandoned}
use Rattle.lrs_report_answers.specs.Tally.Counts.{names_of, is_count_of, no_count, raised, raised_of}
use Rattle.lrs_report_answers.proofs.Joined.{is_false}

-- while rows are added: the classes stay, and what is left leads to the same counts
pub record Adding (names first : List Name) (left all : List Count) : Type 0 where
  pub classes : names ≡ first
  pub same : left ≡ all

-- ---- the one place of an element that passes

not_first : (k : ℕ) → nat_eq 0 (suc k) ≡ false
not_first k = ne_eqb 0 (suc k) (λ e. omega (arith, e))

not_later : (at : ℕ) → nat_eq (suc at) 0 ≡ false
not_later at = ne_eqb (suc at) 0 (λ e. omega (arith, e))

next_place : (at k : ℕ) → nat_eq (suc at) (suc k) ≡ nat_eq at k
next_place at k = by (cases_Bool (nat_eq at k))
  where
    by : (nat_eq at k ≡ true) ⊎ (nat_eq at k ≡ false) → nat_eq (suc at) (suc k) ≡ nat_eq at k
    by (inl h) = let e = eqb-true at k h in eq-eqb (suc at) (suc k) (omega (arith, e)) ∙ sym h
    by (inr h) = ne_eqb (suc at) (suc k) (λ e. eqb-false at k h (omega (arith, e))) ∙ sym h

module _ {X : Type 0} (p : X → Bool) where
  abbrev passes_at : List X → ℕ → Bool
  passes_at xs k = option_map_or p (slice_get xs k) false

  nowhere : (xs : List X) → ((m : ℕ) (d : X) → m < length xs → p (get_or xs m d) ≡ true → ⊥) → (k : ℕ) → passes_at xs k ≡ false
  nowhere [] h k = refl
  nowhere (x ∷ xs) h zero = is_false (p x) (λ t. h zero x (omega arith) t)
  nowhere (x ∷ xs) h (suc k) = nowhere xs (λ m d l t. h (suc m) d (omega (arith, l)) t) k

  one_place : (xs : List X) (at : ℕ) → at < length xs → ((d : X) → p (get_or xs at d) ≡ true) → ((m : ℕ) (d : X) → m < length xs → p (get_or xs m d) ≡ true → m ≡ at) → (k : ℕ) → passes_at xs k ≡ nat_eq at k
  one_place [] at l h one k = absurd (omega (arith, l))
  one_place (x ∷ xs) zero l h one zero = h x
  one_place (x ∷ xs) zero l h one (suc k) = nowhere xs (λ m d less t. let e = one (suc m) d (omega (arith, less)) t in omega (arith, e)) k ∙ sym (not_first k)
  one_place (x ∷ xs) (suc at) l h one zero = is_false (p x) (λ t. let e = one zero x (omega arith) t in omega (arith, e)) ∙ sym (not_later at)
  one_place (x ∷ xs) (suc at) l h one (suc k) = one_place xs at (omega (arith, l)) h (λ m d less t. let e = one (suc m) d (omega (arith, less)) t in omega (arith, e)) k ∙ sym (next_place at k)

  pub unchanged : (f : X → X) (xs : List X) → ((k : ℕ) → passes_at xs k ≡ false) → xs ≡ map (λ x. cond (p x) (f x) x) xs
  unchanged f [] h = refl
  unchanged f (x ∷ xs) h = λ i. cond (sym (h zero) i) (f x) x ∷ unchanged f xs (λ k. h (suc k)) i

  -- what changes the one that passes changes all that pass
  pub changed : (f : X → X) (xs : List X) (at : ℕ) (d y : X) → at < length xs → ((k : ℕ) → passes_at xs k ≡ nat_eq at k) → y ≡ f (get_or xs at d) → set xs at y ≡ map (λ x. cond (p x) (f x) x) xs
  changed f [] at d y l h e = absurd (omega (arith, l))
  changed f (x ∷ xs) zero d y l h e = λ i. cond (sym (h zero) i) (e i) x ∷ unchanged f xs (λ k. h (suc k) ∙ not_first k) i
  changed f (x ∷ xs) (suc at) d y l h e = λ i. cond (sym (h zero ∙ not_later at) i) (f x) x ∷ changed f xs at d y (omega (arith, l)) (λ k. h (suc k) ∙ next_place at k) e i

-- ---- where a search finds a class

names_tie : (a b : Name) → name_cmp a b ≡ Equal → same_name b a ≡ true
names_tie a b h = texts_ties b a ∙ ap is_eq (Rattle.std.proofs.lemmas.Cmp.tied_back nat_list_cmp_total a b h)

tie_names : (a b : Name) → same_name b a ≡ true → name_cmp a b ≡ Equal
tie_names a b h = Rattle.std.proofs.lemmas.Cmp.tied_back nat_list_cmp_total b a ((Rattle.std.specs.Cmp.Equal-is (name_cmp b a)).0 (sym (texts_ties b a) ∙ h))

module _ (xs : List Count) (n : Name) (order : each_two name_before (names_of xs) ≡ true) where
  by_name : each_two (λ (x y : Count). name_before x.class y.class) xs ≡ true
  by_name = sym (each_two-map name_before (λ (c : Count). c.class) xs) ∙ order

  pub place_found : (at : ℕ) → IsSearchInRange (let r : Result ℕ ℕ = Ok at in r) (length xs) → IsBinarySearchResult (λ y. name_cmp y.class n) xs (Ok at) → (k : ℕ) → is_count_of n (slice_get xs k) ≡ nat_eq at k
  place_found at within is =
      one_place (λ (c : Count). same_name n c.class) xs at within (λ d. names_tie (get_or xs at d).class n (is d))
      (λ m d l t. found nat_list_cmp_total (λ (c : Count). c.class) xs n (Ok at) by_name within is m d l (tie_names (get_or xs m d).class n t))

  pub place_missing : (at : ℕ) → IsSearchInRange (let r : Result ℕ ℕ = Err at in r) (length xs) → IsBinarySearchResult (λ y. name_cmp y.class n) xs (Err at) → (k : ℕ) → is_count_of n (slice_get xs k) ≡ false
  place_missing at within is =
      nowhere (λ (c : Count). same_name n c.class) xs
      (λ m d l t. found nat_list_cmp_total (λ (c : Count). c.class) xs n (Err at) by_name within is m d l (tie_names (get_or xs m d).class n t))

-- ---- the classes stay

pub class_stays : (column : CountedSum) (b : Bool) (n : ℕ) (c : Count) → (cond b (raised column n c) c).class ≡ c.class
class_stays (Entered) true n c = refl
class_stays (Retired) true n c = refl
class_stays (Abandoned) true n c = refl
class_stays column false n c = refl

pub names_stay : (class : Name) (column : CountedSum) (n : ℕ) (xs : List Count) → names_of (raised_of class column n xs) ≡ names_of xs
names_stay class column n [] = refl
names_stay class column n (x ∷ xs) = λ i. class_stays column (same_name class x.class) n x i ∷ names_stay class column n xs i

pub first_in_order : (classes : List Class) → each_two class_before classes ≡ true → each_two name_before (names_of (map no_count classes)) ≡ true
first_in_order classes order =
    each_two-map name_before (λ (c : Count). c.class) (map no_count classes) ∙ each_two-map (λ (x y : Count). name_before x.class y.class) no_count classes ∙ order
