-- Why no asset may have two rows over one millimetre in a list that is to be no shorter.
use Rattle.std.specs.Prelude.{◌<◌, List, length}
use Rattle.lrs_machine.specs.declared.image.Image.{Image}
use Rattle.lrs_machine.specs.Image.{state_of}
use Rattle.lrs_machine.specs.Sound.{IsSound}
use Rattle.lrs_promises.specs.DeskLaws.InventoryRows.{Row, rows_of_inventory, courses_in, StandsFor}

-- the rows stand for what a sound image holds, and are fewer than its own
pub record IsShorter (i : Image) (rows : List Row) : Type 0 where
  pub sound : IsSound i
  pub stands : StandsFor (courses_in (state_of i)) rows (state_of i).holds
  pub fewer : length rows < length (rows_of_inventory i)

-- There are such rows: an asset has one of them on the left of a millimetre, and another on the right of it.
abbrev pub SomeOverlapsAreShorter : Type 0
SomeOverlapsAreShorter = (i : Image) × (rows : List Row) × IsShorter i rows
