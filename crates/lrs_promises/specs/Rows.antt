-- The rows of an inventory: canonical, and the fewest.
use Rattle.std.specs.Prelude.{◌≡◌, ◌↔◌, ℕ, true, List, map}
use Rattle.lrs_measure.specs.Texts.{Name}
use Rattle.lrs_machine.specs.Image.{state_of}
use Rattle.lrs_machine.specs.Sound.{IsSound}
use Rattle.lrs_machine.specs.declared.image.Image.{Image}
use Rattle.lrs_promises.specs.DeskLaws.InventoryRows.{HoldAlike, IsFewest, IsMaximal, Row, Tells, rows_of_inventory, canonical, courses_in, has_row, rows_of_each, run_of_row}

-- What is so of the rows (route, asset, from, to, side) of an inventory.
pub record HasFewestRows (i : Image) : Type 0 where
  -- those of each asset on each route are the canonical rows of its course and of what is held
  pub canonical : (route : Name) (asset : ℕ) → map run_of_row (rows_of_each route asset (rows_of_inventory i)) ≡ canonical (courses_in (state_of i)) (state_of i).holds route asset
  -- they are the maximal stretches over which an asset is held on one side, or on both
  pub maximal : (r : Row) → (has_row (rows_of_inventory i) r ≡ true) ↔ IsMaximal (courses_in (state_of i)) (state_of i).holds r
  -- an inventory with the same courses that holds the same has the same rows, whatever the classes of its assets
  pub same : (j : Image) → IsSound j → HoldAlike (state_of i) (state_of j) → (r : Row) → has_row (rows_of_inventory i) r ≡ has_row (rows_of_inventory j) r
  -- they say what is held, and no asset has two over one millimetre
  pub tell : Tells (rows_of_inventory i) (state_of i)
  -- no other rows that do so are fewer, and each of these begins where one of the others does
  pub fewest : (rows : List Row) → Tells rows (state_of i) → IsFewest (rows_of_inventory i) rows
