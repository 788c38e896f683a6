-- What is known of a store when a keeper takes it.
use Rattle.std.specs.Prelude.{◌≡◌, ◌≢◌, pos, List, [], ◌∷◌, map, Ok, IsPermutation}
use Rattle.sqlite_value.specs.Order.{Row}
use Rattle.sqlite_trees.specs.Tree.{Trees}
use Rattle.sqlite.specs.State.{State, HasCleanDisk}
use Rattle.lrs_machine.specs.declared.image.Image.{Image}
use Rattle.lrs_store_tables.specs.Contents.Tables.{Tables}
use Rattle.lrs_store_tables.specs.Contents.Content.{content_of}
use Rattle.lrs_store_tables.specs.StoredRows.{stored, version_in}

-- these are the rows of the version, in any order
abbrev pub HasVersions : List Row → Tables → Type 0
HasVersions rows t = IsPermutation t.version (map version_in rows)

-- whatever rows may be left are of version 2
abbrev pub IsSecond : State → Type 0
IsSecond s = HasCleanDisk s → (db : Trees) → s.may_leave db → (stored db).version ≡ pos 2 ∷ []

-- whatever rows may be left are of no version, of another, or of several
abbrev pub IsNotSecond : State → Type 0
IsNotSecond s = HasCleanDisk s → (db : Trees) → s.may_leave db → (stored db).version ≢ pos 2 ∷ []

-- whatever rows may be left hold this image
abbrev pub HoldsImage : State → Image → Type 0
HoldsImage s i = HasCleanDisk s → (db : Trees) → s.may_leave db → content_of (stored db) ≡ Ok i

-- an image is what they hold
abbrev pub HoldsAnImage : State → Type 0
HoldsAnImage s = (i : Image) × HoldsImage s i
