-- What a lane keeps.
use Rattle.std.specs.Prelude.{◌≡◌, ℕ, ◌+◌, ◌≤◌, true, List, length}
use Rattle.lrs_measure.specs.Lists.{each_two}
use Rattle.lrs_events.specs.declared.span.Span.{Span}
use Rattle.lrs_events.specs.LaneLists.Order.{place_before}
use Rattle.lrs_events.specs.LaneLists.Lane.{greatest_from}

-- rows and the greatest ends up to each, in vectors of these capacities with room for a number more
pub record IsLane (rows : List Span) (greatest : List ℕ) (room rows_capacity greatest_capacity : ℕ) : Type 0 where
  pub order : each_two place_before rows ≡ true
  pub greatest_are : greatest ≡ greatest_from 0 rows
  pub rows_fit : length rows + room ≤ rows_capacity
  pub greatest_fit : length rows + room ≤ greatest_capacity
