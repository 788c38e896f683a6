-- What a removal takes away, and what it leaves.
use Rattle.std.specs.Prelude.{◌≡◌, ℕ, ◌<◌, Bool, true, ◌&&◌, not, nat_lt, nat_le, List, filter}
use Rattle.lrs_measure.specs.Texts.{Name}
use Rattle.lrs_measure.specs.Lists.{In}
use Rattle.lrs_events.specs.declared.side.LinkSide.{LinkSide}
use Rattle.lrs_events.specs.declared.span.Span.{Span}
use Rattle.lrs_events.specs.Spans.{are_rows}
use Rattle.lrs_events.specs.Members.{Picks, is_member}
use Rattle.lrs_events.specs.Changes.{changed_rows}
use Rattle.lrs_events.specs.declared.rows.removals.Removal.{Removal}
use Rattle.lrs_events.specs.Row.Changes.{IsChange}

-- a test of class, asset, chainage and side
abbrev pub Taken : Type 0
Taken = Name → ℕ → Picks

-- the rows without what is taken
abbrev pub IsLess : Taken → List Span → List Span → Type 0
IsLess taken rows new = (class : Name) (asset j : ℕ) (s : LinkSide) → is_member new class asset j s ≡ (is_member rows class asset j s && not (taken class asset j s))

-- what is taken of the rows
abbrev pub IsThat : Taken → List Span → List Span → Type 0
IsThat taken rows part = (class : Name) (asset j : ℕ) (s : LinkSide) → is_member part class asset j s ≡ (is_member rows class asset j s && taken class asset j s)

-- What is taken is handed back as canonical rows, and the change makes canonical rows of the rest.
pub record IsRemoval (taken : Taken) (rows : List Span) (removal : Removal) : Type 0 where
  pub kept : are_rows (changed_rows removal.change rows) ≡ true
  pub change : IsChange rows removal.change.gone.items removal.change.come.items (changed_rows removal.change rows)
  pub rest : IsLess taken rows (changed_rows removal.change rows)
  pub left_rows : are_rows removal.left.items ≡ true
  pub left : IsThat taken rows removal.left.items

-- from low up to high
abbrev pub is_within : ℕ → ℕ → ℕ → Bool
is_within low high j = nat_le low j && nat_lt j high

-- what of these classes and assets lies from low up to high
abbrev pub of_within : (Name → ℕ → Bool) → ℕ → ℕ → Taken
of_within of low high class asset j s = of class asset && is_within low high j

-- A test finds rows of these classes and assets only, and each that has a millimetre from low up to high.
pub record Finds (of : Name → ℕ → Bool) (low high : ℕ) (test : Span → Bool) (rows : List Span) : Type 0 where
  pub only : (r : Span) → In r rows → test r ≡ true → of r.class r.asset ≡ true
  pub each : (r : Span) → In r rows → of r.class r.asset ≡ true → r.from < high → low < r.to → test r ≡ true

-- From whatever rows these were found in, what lies from low up to high is removed.
abbrev pub Clears : List Span → ℕ → ℕ → Removal → Type 0
Clears found low high removal = (rows : List Span) (test : Span → Bool) (of : Name → ℕ → Bool)
    → are_rows rows ≡ true → found ≡ filter test rows → Finds of low high test rows → IsRemoval (of_within of low high) rows removal

-- whether the row has a millimetre from low up to high
abbrev pub is_met : ℕ → ℕ → Span → Bool
is_met low high r = nat_lt r.from high && nat_lt low r.to
