-- Why the class is no part of a row: with it, the rows of two inventories may differ where courses and holdings are the same.
use Rattle.std.specs.Prelude.{◌≢◌, List, map}
use Rattle.lrs_measure.specs.Texts.{Name}
use Rattle.lrs_events.specs.declared.span.Span.{Span}
use Rattle.lrs_machine.specs.declared.image.Image.{Image}
use Rattle.lrs_machine.specs.Image.{state_of}
use Rattle.lrs_machine.specs.Sound.{IsSound}
use Rattle.lrs_promises.specs.DeskLaws.InventoryRows.{HoldAlike}

-- the rows of each route by its name, as they are kept: with the class of each asset, and in the order of the classes
abbrev pub rows_by_name : Image → List (Name × List Span)
rows_by_name i = map (λ e. (e.route.name, e.spans)) i.routes

-- Two sound images have the same courses and hold the same; their assets are of other classes, and so the rows as they are
-- kept differ.
pub record DifferByClasses (i j : Image) : Type 0 where
  pub one : IsSound i
  pub other : IsSound j
  pub alike : HoldAlike (state_of i) (state_of j)
  pub classes : map (λ a. a.class) i.assets ≢ map (λ a. a.class) j.assets
  pub rows : rows_by_name i ≢ rows_by_name j

-- There are such images.
abbrev pub SomeDifferByClasses : Type 0
SomeDifferByClasses = (i : Image) × (j : Image) × DifferByClasses i j
