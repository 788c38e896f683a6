-- What is known of an inventory.
use Rattle.lrs_inventory.specs.Prelude.{Image, IsSound}
use Rattle.lrs_inventory.specs.declared.indexes.Indexes.{Indexes}
use Rattle.lrs_inventory.specs.Indexes.{IsIndexed}

-- The image is sound, and indexed.
pub record IsKnown (image : Image) (x : Indexes) : Type 0 where
  pub sound : IsSound image
  pub indexed : IsIndexed image x
