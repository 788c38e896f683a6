-- An image that may be found is sound.
use Rattle.std.proofs.Common.{◌≡◌, IfOk, Ok, Err, Result}
use Rattle.sqlite.specs.State.{State}
use Rattle.lrs_machine.specs.declared.image.Image.{Image}
use Rattle.lrs_machine.specs.declared.table.Table.{Table}
use Rattle.lrs_machine.specs.Sound.{IsSound}
use Rattle.lrs_image.specs.KeeperCalls.{HoldsSound}
use Rattle.lrs_store_tables.specs.Contents.Tables.{Tables}
use Rattle.lrs_store_tables.specs.Contents.Content.{content_of}
use Rattle.lrs_store_tables.proofs.Contents.Contents.{content_is_sound}
use Rattle.lrs_store_tables.specs.StoredRows.{stored}
use Rattle.lrs_store_tables.specs.HeldRows.{MayHold}

held_sound : (t : Tables) (c : Result Image Table) → content_of t ≡ c → IfOk c IsSound
held_sound t (Ok image) e = content_is_sound t image e
held_sound t (Err table) e = tt

pub found_sound : (s : State) → HoldsSound (MayHold s)
found_sound s c h = held_sound (stored h.1.0) c h.1.2
