-- Rows found by their keys, in the words of tests of equality.
use Rattle.std.proofs.Common.{◌≡◌, ℕ, Bool, cond, List, [], ◌∷◌, Some, filter, refl, ap, ◌∙◌}
use Rattle.std.specs.Prelude.{not, nat_eq}
use Rattle.std.specs.List.{find}
use Rattle.std.specs.Ordering.{nat_cmp, is_eq}
use Rattle.std.specs.Cmp.{unsigned_tied}
use Rattle.lrs_measure.specs.Texts.{Name, name_cmp, same_name}
use Rattle.std.proofs.lemmas.Map.Text.{is_eq-slice_cmp}
use Rattle.std.proofs.lemmas.List.Elements.{filter_agree}

module _ {X : Type 0} where
  -- two tests that agree find the same element
  pub find_agree : (p q : X → Bool) → ((x : X) → p x ≡ q x) → (xs : List X) → find p xs ≡ find q xs
  find_agree p q agree [] = refl
  find_agree p q agree (x ∷ xs) = ap (λ b. cond b (Some x) (find p xs)) (agree x) ∙ ap (cond (q x) (Some x)) (find_agree p q agree xs)

  module _ (number : X → ℕ) (n : ℕ) where
    -- the row of a number
    pub finds_number : (xs : List X) → find (λ x. is_eq (nat_cmp (number x) n)) xs ≡ find (λ x. nat_eq (number x) n) xs
    finds_number xs = find_agree (λ x. is_eq (nat_cmp (number x) n)) (λ x. nat_eq (number x) n) (λ x. unsigned_tied (number x) n) xs

    -- the rows of other numbers
    pub other_numbers : (xs : List X) → filter (λ x. not (is_eq (nat_cmp (number x) n))) xs ≡ filter (λ x. not (nat_eq (number x) n)) xs
    other_numbers xs = filter_agree (λ x. not (is_eq (nat_cmp (number x) n))) (λ x. not (nat_eq (number x) n)) (λ x. ap not (unsigned_tied (number x) n)) xs

  module _ (name : X → Name) (n : Name) where
    -- the row of a name
    pub finds_name : (xs : List X) → find (λ x. is_eq (name_cmp (name x) n)) xs ≡ find (λ x. same_name (name x) n) xs
    finds_name xs = find_agree (λ x. is_eq (name_cmp (name x) n)) (λ x. same_name (name x) n) (λ x. is_eq-slice_cmp (name x) n) xs

    -- the rows of other names
    pub other_names : (xs : List X) → filter (λ x. not (is_eq (name_cmp (name x) n))) xs ≡ filter (λ x. not (same_name (name x) n)) xs
    other_names xs = filter_agree (λ x. not (is_eq (name_cmp (name x) n))) (λ x. not (same_name (name x) n)) (λ x. ap not (is_eq-slice_cmp (name x) n)) xs
