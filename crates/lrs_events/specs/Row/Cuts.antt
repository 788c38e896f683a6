-- Rows of a route that is cut in two.
use Rattle.std.specs.Prelude.{◌≡◌, ℕ, ◌+◌, true, ◌&&◌, nat_lt, List, filter}
use Rattle.lrs_measure.specs.Texts.{Name}
use Rattle.lrs_events.specs.declared.side.LinkSide.{LinkSide}
use Rattle.lrs_events.specs.declared.span.Span.{Span}
use Rattle.lrs_events.specs.Spans.{are_rows}
use Rattle.lrs_events.specs.Members.{is_member}
use Rattle.lrs_events.specs.Changes.{changed_rows}
use Rattle.lrs_events.specs.declared.rows.cuts.Cut.{Cut}
use Rattle.lrs_events.specs.Row.Changes.{IsChange}

-- the rows before a place and those behind it, which begin at 0
pub record IsCut (at : ℕ) (rows front rear : List Span) : Type 0 where
  pub before : (class : Name) (asset j : ℕ) (s : LinkSide) → is_member front class asset j s ≡ (is_member rows class asset j s && nat_lt j at)
  pub behind : (class : Name) (asset j : ℕ) (s : LinkSide) → is_member rear class asset j s ≡ is_member rows class asset (j + at) s

-- The change makes canonical rows of those before the place, and those behind it are handed back as canonical rows.
pub record IsCutOff (at : ℕ) (rows : List Span) (cut : Cut) : Type 0 where
  pub kept : are_rows (changed_rows cut.change rows) ≡ true
  pub change : IsChange rows cut.change.gone.items cut.change.come.items (changed_rows cut.change rows)
  pub rear_rows : are_rows cut.rear.items ≡ true
  pub parts : IsCut at rows (changed_rows cut.change rows) cut.rear.items

-- Whatever rows these are of that end behind the place, they are cut there.
abbrev pub Cuts : List Span → ℕ → Cut → Type 0
Cuts found at cut = (rows : List Span) → are_rows rows ≡ true → found ≡ filter (λ r. nat_lt at r.to) rows → IsCutOff at rows cut
