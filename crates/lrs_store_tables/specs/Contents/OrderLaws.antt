-- What a store holds hangs on its rows alone.
use Rattle.std.specs.Prelude.{◌≡◌}
use Rattle.lrs_store_tables.specs.Contents.Tables.{Tables, AreSame}
use Rattle.lrs_store_tables.specs.Contents.Content.{content_of}

-- Stores with the same rows, in any order, hold the same: one image, or one first table that is unsound.
abbrev pub ContentIsOfRows : Type 0
ContentIsOfRows = (a b : Tables) → AreSame a b → content_of a ≡ content_of b
