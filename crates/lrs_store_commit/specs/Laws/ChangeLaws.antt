-- What holds of the rows that are written of a change.
use Rattle.std.specs.Prelude.{◌+◌, length}
use Rattle.lrs_machine.specs.declared.image.Image.{Image}
use Rattle.lrs_machine.specs.Sound.{IsSound}
use Rattle.lrs_image.specs.declared.change.Change.{Change}
use Rattle.lrs_image.specs.Change.{apply, CanMake}
use Rattle.lrs_store_tables.specs.Contents.Tables.{Tables}
use Rattle.lrs_store_tables.specs.Contents.EncodedImages.{Encodes}
use Rattle.lrs_store_tables.specs.Writes.{IsWritten}

-- Rows that stand for a sound image stand for the changed image, after a change that can be made is written as the next edit.
abbrev pub WrittenIsEncoded : Type 0
WrittenIsEncoded = (i : Image) (c : Change) (t after : Tables) → IsSound i → CanMake c i → Encodes i t → IsWritten (length i.edits + 1) c t after → Encodes (apply c i) after
