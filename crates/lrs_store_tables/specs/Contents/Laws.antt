-- What holds of every content of a store.
use Rattle.std.specs.Prelude.{◌≡◌, pos, List, [], ◌∷◌, map, Ok}
use Rattle.lrs_events.specs.declared.class.Asset.{Asset}
use Rattle.lrs_machine.specs.declared.image.Image.{Image}
use Rattle.lrs_machine.specs.Image.{nothing}
use Rattle.lrs_machine.specs.Sound.{IsSound}
use Rattle.lrs_store_tables.specs.Contents.Tables.{Tables, OriginRow, no_rows}
use Rattle.lrs_store_tables.specs.Contents.Content.{content_of}

-- A store without any row holds the image without entries.
abbrev pub EmptyStoreHoldsNothing : Type 0
EmptyStoreHoldsNothing = content_of no_rows ≡ Ok nothing

-- An image that a store holds is sound.
abbrev pub ContentIsSound : Type 0
ContentIsSound = (t : Tables) (i : Image) → content_of t ≡ Ok i → IsSound i

-- the row that tells which edit entered an asset
abbrev pub origin_row : Asset → OriginRow
origin_row a = record { asset = pos a.number; edit = pos a.entered_by }

-- the store as one of version 2, with the origins of these assets
abbrev pub brought_up : List Asset → Tables → Tables
brought_up assets t = record t { version = pos 2 ∷ []; origin = map origin_row assets }

-- A store of version 1 that is brought up to version 2 holds the image that it held.
abbrev pub BroughtUpHoldsTheSame : Type 0
BroughtUpHoldsTheSame = (t : Tables) (i : Image) → t.version ≡ pos 1 ∷ [] → content_of t ≡ Ok i → content_of (brought_up i.assets t) ≡ Ok i
