-- The connections that a door has still to give, and those that it has back, where it tells them.
use Rattle.std.specs.Prelude.{◌≡◌, ℕ, ◌+◌, ◌^◌, ◌<◌, ◌≤◌, ◌⊎◌, List, [], ◌∷◌, ◌++◌, Option, None, Some}

module _ {C : Type 0} where
  -- the first connection came, and the others are left; none comes where none is left
  abbrev pub Gives : Option (List C) → C → Option (List C) → Type 0
  Gives None connection new = Unit {0}
  Gives (Some []) connection new = ⊥
  Gives (Some (c ∷ cs)) connection None = ⊥
  Gives (Some (c ∷ cs)) connection (Some left) = (c ≡ connection) × (left ≡ cs)

  -- one is back, behind those that were
  abbrev pub TakesBack : Option (List C) → C → Option (List C) → Type 0
  TakesBack None c new = Unit {0}
  TakesBack (Some cs) c None = ⊥
  TakesBack (Some cs) c (Some all) = all ≡ cs ++ c ∷ []

  -- those that are told stay so
  abbrev pub KeepsAll : Option (List C) → Option (List C) → Type 0
  KeepsAll None new = Unit {0}
  KeepsAll (Some cs) None = ⊥
  KeepsAll (Some cs) (Some left) = left ≡ cs

-- a count of failures has risen; at its greatest it stays
abbrev pub HasRisen : ℕ → ℕ → Type 0
HasRisen old new = (old < new) ⊎ (2 ^ 64 ≤ old + 1)
