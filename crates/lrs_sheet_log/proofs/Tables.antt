-- Tables in their order, and the images that they make.
use Rattle.std.proofs.Common.{◌≡◌, ◌↔◌, List, [], ◌∷◌, length, map, refl, sym, ap, subst, arith}
use Rattle.lrs_image.proofs.Becoming.{same_route}
use Rattle.lrs_machine.specs.declared.image.Image.{Image}
use Rattle.lrs_machine.specs.declared.image.RouteRow.{RouteRow}
use Rattle.lrs_machine.specs.declared.table.Table.{Table}
use Rattle.lrs_machine.specs.declared.table.Table.TheVariants as table
use Rattle.lrs_sheet_log.specs.Differences.{SameTable, SameUpTo, TablesMakeImages, course_row, marks_row, refs_row, spans_row}

-- the version is the first table
pub up-to-first : (i j : Image) → SameUpTo 1 i j
up-to-first i j table.Version low = tt
up-to-first i j table.Link low = absurd (omega (arith, low))
up-to-first i j table.Class low = absurd (omega (arith, low))
up-to-first i j table.Asset low = absurd (omega (arith, low))
up-to-first i j table.Piece low = absurd (omega (arith, low))
up-to-first i j table.Mark low = absurd (omega (arith, low))
up-to-first i j table.Ref low = absurd (omega (arith, low))
up-to-first i j table.Span low = absurd (omega (arith, low))
up-to-first i j table.Entered low = absurd (omega (arith, low))
up-to-first i j table.Gone low = absurd (omega (arith, low))
up-to-first i j table.Edit low = absurd (omega (arith, low))
up-to-first i j table.Origin low = absurd (omega (arith, low))

-- those of an image are all but the last one
all-tables : (i j : Image) → SameUpTo 11 i j → (t : Table) → SameTable t i j
all-tables i j h table.Origin = tt
all-tables i j h table.Version = tt
all-tables i j h table.Link = h table.Link (omega arith)
all-tables i j h table.Class = h table.Class (omega arith)
all-tables i j h table.Asset = h table.Asset (omega arith)
all-tables i j h table.Piece = h table.Piece (omega arith)
all-tables i j h table.Mark = h table.Mark (omega arith)
all-tables i j h table.Ref = h table.Ref (omega arith)
all-tables i j h table.Span = h table.Span (omega arith)
all-tables i j h table.Entered = h table.Entered (omega arith)
all-tables i j h table.Gone = h table.Gone (omega arith)
all-tables i j h table.Edit = h table.Edit (omega arith)

routes-same : (xs ys : List RouteRow) → map course_row xs ≡ map course_row ys → map marks_row xs ≡ map marks_row ys → map refs_row xs ≡ map refs_row ys → map spans_row xs ≡ map spans_row ys → xs ≡ ys
routes-same [] [] c m r s = refl
routes-same [] (y ∷ ys) c m r s = absurd (let n : 0 ≡ length (map course_row (y ∷ ys)) = ap length c in omega (arith, n))
routes-same (x ∷ xs) [] c m r s = absurd (let n : length (map course_row (x ∷ xs)) ≡ 0 = ap length c in omega (arith, n))
routes-same (x ∷ xs) (y ∷ ys) c m r s =
    let course : course_row x ≡ course_row y = cc (c) in
    let marks : marks_row x ≡ marks_row y = cc (m) in
    let refs : refs_row x ≡ refs_row y = cc (r) in
    let spans : spans_row x ≡ spans_row y = cc (s) in
    let route = same_route x.route y.route (ap (λ p. p.0) course) (ap (λ p. p.1) course) (ap (λ p. p.1) marks) (ap (λ p. p.1) refs) in
    let span = ap (λ p. p.1) spans in
    let c2 : map course_row xs ≡ map course_row ys = cc (c) in
    let m2 : map marks_row xs ≡ map marks_row ys = cc (m) in
    let r2 : map refs_row xs ≡ map refs_row ys = cc (r) in
    let s2 : map spans_row xs ≡ map spans_row ys = cc (s) in
    let others = routes-same xs ys c2 m2 r2 s2 in
    λ k. (record { route = route k; spans = span k }) ∷ others k

pub tables_make_images : TablesMakeImages
tables_make_images i j same =
    let links : i.links ≡ j.links = same table.Link in
    let classes : i.classes ≡ j.classes = same table.Class in
    let assets : i.assets ≡ j.assets = same table.Asset in
    let routes : i.routes ≡ j.routes = routes-same i.routes j.routes (same table.Piece) (same table.Mark) (same table.Ref) (same table.Span) in
    let entered : i.entered ≡ j.entered = same table.Entered in
    let gone : i.gone ≡ j.gone = same table.Gone in
    let edits : i.edits ≡ j.edits = same table.Edit in
    λ k. record { links = links k; classes = classes k; assets = assets k; routes = routes k; entered = entered k; gone = gone k; edits = edits k }

pub image-same : (i j : Image) → SameUpTo 11 i j → i ≡ j
image-same i j h = tables_make_images i j (all-tables i j h)

-- what is known of a table by its name
pub as-table : (t u : Table) (i j : Image) (P : Type 0) → t ≡ u → P ↔ SameTable u i j → P ↔ SameTable t i j
as-table t u i j P e h = subst (λ (v : Table). P ↔ SameTable v i j) (sym e) h
