-- Which rows went and which came.
use Rattle.std.specs.Prelude.{◌↔◌, ◌⊎◌, not, List}
use Rattle.std.specs.List.{filter}
use Rattle.lrs_measure.specs.Lists.{In}
use Rattle.lrs_events.specs.declared.span.Span.{Span}
use Rattle.lrs_events.specs.Changes.{has_row}

-- the rows without the removed ones and with the inserted ones, none of which was there
pub record IsChange (old gone come new : List Span) : Type 0 where
  pub rows : (r : Span) → In r new ↔ ((In r old × (In r gone → ⊥)) ⊎ In r come)
  pub were : (r : Span) → In r gone → In r old
  pub fresh : (r : Span) → In r come → In r old → ⊥

-- the rows that others have not
abbrev pub missing : List Span → List Span → List Span
missing others rows = filter (λ r. not (has_row others r)) rows
