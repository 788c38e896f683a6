-- What two files tell before they are opened.
use Rattle.std.specs.Prelude.{◌≡◌, ℕ, Bool, [], IsTrue}
use Rattle.sqlite_trees.specs.Tree.{Trees}
use Rattle.sqlite_wal.specs.Recovery.{Image}
use Rattle.sqlite_pool.specs.Stored.{used_size}
use Rattle.sqlite.specs.Files.{HoldsDatabase, IsNothing, NamesSize, BeginsWell, SaysSums}
use Rattle.sqlite.specs.Opening.{AreToSeal}

-- There is something in the files. If it is a database, its pages have this many bytes, and end in sums or not; and no page of the log lacks its sum.
pub record LooksLike (image : Image) (size : ℕ) (has_sums : Bool) : Type 0 where
  pub something : ¬ IsNothing image
  pub named : NamesSize image size
  pub held : (db : Trees) (held : HoldsDatabase image db) → held.0 ≡ used_size size has_sums
  pub begins : BeginsWell size image
  pub says : IsTrue has_sums → SaysSums size image
  pub sealed : AreToSeal (used_size size has_sums) image []
