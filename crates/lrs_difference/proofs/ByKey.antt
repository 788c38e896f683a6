-- The lists of an image are in an order by keys, and what their entries say stands in a difference.
use Rattle.std.proofs.Common.{◌≡◌, ℕ, Bool, true, false, cond, not, List, [], ◌∷◌, map, refl, sym, ap, ◌∙◌}
use Rattle.std.specs.Prelude.{nat_lt}
use Rattle.std.specs.List.{list_any}
use Rattle.std.specs.Ordering.{is_lt, nat_cmp, ordering_reverse, ordering_then}
use Rattle.std.specs.declared.cmp.Ordering.{Ordering}
use Rattle.std.specs.declared.cmp.Ordering.TheVariants.{Less, Equal, Greater}
use Rattle.std.specs.Cmp.{IsTotalOrder, nat_cmp_total, tied_itself}
use Rattle.std.specs.Cmp.Lexicographic.{nat_list_cmp_total, slice_cmp}
use Rattle.std.proofs.lemmas.Bool.{both_ways, false_from_ne_true}
use Rattle.lrs_measure.specs.KeyOrder.{key_after, numbers_agree}
use Rattle.lrs_measure.specs.Texts.{name_before}
use Rattle.lrs_measure.proofs.Members.{list_any-map}
use Rattle.lrs_difference.specs.declared.line.Item.{Item}
use Rattle.lrs_difference.specs.Difference.{in_order, lacking}
use Rattle.lrs_difference.specs.Items.{item_before}
use Rattle.lrs_difference.specs.Merging.{IsByKey, lines_between}
use Rattle.lrs_difference.proofs.Same.{Tells}

-- ---- orders

abbrev pub OneWay : {K : Type 0} → (K → K → Bool) → Type 0
OneWay {K = K} lt = (a b : K) → lt a b ≡ true → lt b a ≡ false

abbrev pub Onward : {K : Type 0} → (K → K → Bool) → Type 0
Onward {K = K} lt = (a b c : K) → lt b a ≡ false → lt b c ≡ true → lt a c ≡ true

module _ {K : Type 0} {R : K → K → Ordering} (o : IsTotalOrder R) where
  turned : (a c : K) → R c a ≡ Greater → is_lt (R a c) ≡ true
  turned a c h = ap is_lt (o.antisymm a c ∙ ap ordering_reverse h)

  one_way : OneWay (λ a b. is_lt (R a b))
  one_way a b h = ap is_lt (key_after o a b a h (ap is_lt (tied_itself o a)))

  onward : Onward (λ a b. is_lt (R a b))
  onward a b c h k = turned a c (key_after o b c a k h)

pub names_one_way : OneWay name_before
names_one_way = one_way nat_list_cmp_total

pub names_onward : Onward name_before
names_onward = onward nat_list_cmp_total

pub numbers_one_way : OneWay nat_lt
numbers_one_way a b h = numbers_agree b a ∙ one_way nat_cmp_total a b (sym (numbers_agree a b) ∙ h)

pub numbers_onward : Onward nat_lt
numbers_onward a b c h k = numbers_agree a c ∙ onward nat_cmp_total a b c (sym (numbers_agree b a) ∙ h) (sym (numbers_agree b c) ∙ k)

-- ---- entries with a key

module _ {A B K : Type 0} (says : A → B) (key : B → K) (lt : K → K → Bool) (one : OneWay lt) (on : Onward lt) (same : B → B → Bool) (tells : Tells same) where
  abbrev pub earlier : A → A → Bool
  earlier a b = lt (key (says a)) (key (says b))

  abbrev pub alike : A → A → Bool
  alike a b = same (says a) (says b)

  never : (k : K) → lt k k ≡ false
  never k = false_from_ne_true (lt k k) (λ h. both_ways (lt k k) (one k k h) h)

  apart : (a b : A) → earlier a b ≡ true → alike a b ≡ false
  apart a b h = false_from_ne_true (alike a b) (λ t.
      let e = ap key ((tells (says a) (says b)).0 t) in
      both_ways (earlier a b) (ap (λ k. lt k (key (says b))) e ∙ never (key (says b))) h)

  mirrored : (a b : A) → alike a b ≡ alike b a
  mirrored a b = by (alike a b) (alike b a) (λ t. (tells (says b) (says a)).1 (sym ((tells (says a) (says b)).0 t))) (λ t. (tells (says a) (says b)).1 (sym ((tells (says b) (says a)).0 t)))
    where
      by : (s t : Bool) → (s ≡ true → t ≡ true) → (t ≡ true → s ≡ true) → s ≡ t
      by true t f g = sym (f refl)
      by false true f g = g refl
      by false false f g = refl

  pub by_key : (item : A → Item) → ((a b : A) → item_before (item a) (item b) ≡ earlier a b) → IsByKey earlier alike item
  by_key item h = record {
    one_way = λ a b. one (key (says a)) (key (says b));
    onward = λ a b c. on (key (says a)) (key (says b)) (key (says c));
    apart = apart;
    mirrored = mirrored;
    items = h;
  }

-- ---- what entries say

module _ {A B : Type 0} (says : A → B) (same : B → B → Bool) (item : B → Item) where
  lacking_said : (xs ys : List A) → lacking same (map says xs) (map says ys) ≡ map says (lacking (λ a b. same (says a) (says b)) xs ys)
  lacking_said [] ys = refl
  lacking_said (x ∷ xs) ys =
      ap (λ b. cond (not b) (says x ∷ lacking same (map says xs) (map says ys)) (lacking same (map says xs) (map says ys))) (list_any-map (same (says x)) says ys)
      ∙ by (list_any (λ y. same (says x) (says y)) ys) (lacking_said xs ys)
    where
      kept : List A
      kept = lacking (λ a b. same (says a) (says b)) xs ys

      by : (b : Bool) → lacking same (map says xs) (map says ys) ≡ map says kept → cond (not b) (says x ∷ lacking same (map says xs) (map says ys)) (lacking same (map says xs) (map says ys)) ≡ map says (cond (not b) (x ∷ kept) kept)
      by true rest = rest
      by false rest = ap (λ zs. says x ∷ zs) rest

  mapped_twice : (xs : List A) → map item (map says xs) ≡ map (λ a. item (says a)) xs
  mapped_twice [] = refl
  mapped_twice (x ∷ xs) = ap (λ zs. item (says x) ∷ zs) (mapped_twice xs)

  pub lines_said : (xs ys : List A)
      → lines_between (λ a b. same (says a) (says b)) (λ a. item (says a)) xs ys ≡ in_order (map item (lacking same (map says xs) (map says ys))) (map item (lacking same (map says ys) (map says xs)))
  lines_said xs ys =
      let one = ap (map item) (lacking_said xs ys) ∙ mapped_twice (lacking (λ a b. same (says a) (says b)) xs ys) in
      let two = ap (map item) (lacking_said ys xs) ∙ mapped_twice (lacking (λ a b. same (says a) (says b)) ys xs) in
      sym (λ i. in_order (one i) (two i))

-- ---- the order of items

one_number : (o : Ordering) → is_lt (ordering_then o Equal) ≡ is_lt o
one_number Less = refl
one_number Equal = refl
one_number Greater = refl

-- keys of one number
pub by_number : (m n : ℕ) → is_lt (slice_cmp nat_cmp (m ∷ []) (n ∷ [])) ≡ nat_lt m n
by_number m n = one_number (nat_cmp m n) ∙ sym (numbers_agree m n)
