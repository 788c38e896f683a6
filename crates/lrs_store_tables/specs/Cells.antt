-- The values of rows, as the statements that put them take them.
use Rattle.std.specs.Prelude.{ℕ, ◌+◌, ℤ, List, [], ◌∷◌, ◌++◌}
use Rattle.sqlite_value.specs.declared.value.Value.TheVariants.{Int, Text}
use Rattle.sqlite_value.specs.Order.{Row}
use Rattle.lrs_store_tables.specs.Contents.Tables.{LinkRow, ClassRow, AssetRow, PieceRow, MarkRow, RefRow, SpanRow, EnteredRow, GoneRow, EditRow, OriginRow}

abbrev pub version_cells : ℤ → Row
version_cells r = Int r ∷ []

abbrev pub link_cells : LinkRow → Row
link_cells r = Int r.number ∷ Int r.length ∷ []

abbrev pub class_cells : ClassRow → Row
class_cells r = Text r.name ∷ Int r.kind ∷ []

abbrev pub asset_cells : AssetRow → Row
asset_cells r = Int r.number ∷ Text r.class ∷ Text r.value ∷ Int r.lateral ∷ []

abbrev pub piece_cells : PieceRow → Row
piece_cells r = Text r.route ∷ Int r.n ∷ Int r.link ∷ Int r.a ∷ Int r.b ∷ Int r.dir ∷ []

abbrev pub mark_cells : MarkRow → Row
mark_cells r = Text r.route ∷ Int r.n ∷ Int r.chainage ∷ Int r.measure ∷ []

abbrev pub ref_cells : RefRow → Row
ref_cells r = Text r.name ∷ Text r.route ∷ Int r.place ∷ []

abbrev pub span_cells : SpanRow → Row
span_cells r = Int r.asset ∷ Text r.route ∷ Int r.lo ∷ Int r.hi ∷ Int r.side ∷ []

abbrev pub entered_cells : EnteredRow → Row
entered_cells r = Int r.edit ∷ Int r.asset ∷ Int r.link ∷ Int r.lo ∷ Int r.hi ∷ Int r.side ∷ []

abbrev pub gone_cells : GoneRow → Row
gone_cells r = Int r.row.edit ∷ Int r.cause ∷ Int r.row.asset ∷ Int r.row.link ∷ Int r.row.lo ∷ Int r.row.hi ∷ Int r.row.side ∷ []

abbrev pub edit_cells : EditRow → Row
edit_cells r = Int r.number ∷ Text r.token ∷ Text r.line ∷ []

abbrev pub origin_cells : OriginRow → Row
origin_cells r = Int r.asset ∷ Int r.edit ∷ []

-- those of what stands one after the other, of which the first has this number
abbrev pub all_cells : {X : Type 0} → (ℕ → X → Row) → ℕ → List X → Row
all_cells cells n [] = []
all_cells cells n (x ∷ xs) = cells n x ++ all_cells cells (n + 1) xs
