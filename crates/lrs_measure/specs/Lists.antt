-- Words on lists.
use Rattle.std.specs.Prelude.{◌≡◌, ◌⊎◌, ℕ, Bool, true, false, ◌&&◌, not, nat_le, List, [], ◌∷◌}
use Rattle.std.specs.List.{list_all}

-- a number from low to high, both included
abbrev pub is_from_to : ℕ → ℕ → ℕ → Bool
is_from_to low high n = nat_le low n && nat_le n high

-- x is one of these
abbrev pub In : {X : Type 0} → X → List X → Type 0
In x [] = ⊥
In x (y ∷ ys) = (x ≡ y) ⊎ In x ys

-- each two elements pass the test, in their order
abbrev pub each_two : {X : Type 0} → (X → X → Bool) → List X → Bool
each_two test [] = true
each_two test (x ∷ xs) = list_all (test x) xs && each_two test xs

-- both are true, or both are false
abbrev pub same_bool : Bool → Bool → Bool
same_bool true b = b
same_bool false b = not b

abbrev pub is_nothing : {A : Type 0} → List A → Bool
is_nothing [] = true
is_nothing (x ∷ xs) = false
