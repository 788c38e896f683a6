-- Which tables of two images differ, and which of them is the first.
use Rattle.std.specs.Prelude.{◌≡◌, ◌↔◌, ⊤, Bool, false, IsTrue, ℕ, ◌<◌, List, [], ◌∷◌, map, Option, Some, None}
use Rattle.lrs_measure.specs.Texts.{Name}
use Rattle.lrs_element.specs.declared.link.Ground.{Ground}
use Rattle.lrs_element.specs.declared.marks.Mark.{Mark}
use Rattle.lrs_events.specs.declared.span.Span.{Span}
use Rattle.lrs_machine.specs.declared.image.Image.{Image}
use Rattle.lrs_machine.specs.declared.image.RouteRow.{RouteRow}
use Rattle.lrs_machine.specs.declared.table.Table.{Table}
use Rattle.lrs_machine.specs.declared.table.Table.TheVariants as table
use Rattle.lrs_position.specs.declared.route.Referent.{Referent}

-- what the tables of pieces, marks, referents and spans have of a route, under its name
abbrev pub course_row : RouteRow → Name × List Ground
course_row e = (e.route.name, e.route.course)

abbrev pub marks_row : RouteRow → Name × List Mark
marks_row e = (e.route.name, e.route.marks)

abbrev pub refs_row : RouteRow → Name × List Referent
refs_row e = (e.route.name, e.route.refs)

abbrev pub spans_row : RouteRow → Name × List Span
spans_row e = (e.route.name, e.spans)

-- Both images have the same rows in a table. An image has no version, and its assets tell their origins.
abbrev pub SameTable : Table → Image → Image → Type 0
SameTable table.Version i j = ⊤
SameTable table.Link i j = i.links ≡ j.links
SameTable table.Class i j = i.classes ≡ j.classes
SameTable table.Asset i j = i.assets ≡ j.assets
SameTable table.Piece i j = map course_row i.routes ≡ map course_row j.routes
SameTable table.Mark i j = map marks_row i.routes ≡ map marks_row j.routes
SameTable table.Ref i j = map refs_row i.routes ≡ map refs_row j.routes
SameTable table.Span i j = map spans_row i.routes ≡ map spans_row j.routes
SameTable table.Entered i j = i.entered ≡ j.entered
SameTable table.Gone i j = i.gone ≡ j.gone
SameTable table.Edit i j = i.edits ≡ j.edits
SameTable table.Origin i j = ⊤

-- how many tables stand before a table
abbrev pub rank : Table → ℕ
rank table.Version = 0
rank table.Link = 1
rank table.Class = 2
rank table.Asset = 3
rank table.Piece = 4
rank table.Mark = 5
rank table.Ref = 6
rank table.Span = 7
rank table.Entered = 8
rank table.Gone = 9
rank table.Edit = 10
rank table.Origin = 11

-- both have the same rows in the first tables
abbrev pub SameUpTo : ℕ → Image → Image → Type 0
SameUpTo count i j = (t : Table) → rank t < count → SameTable t i j

-- The first table in which two images differ; none where they are the same.
abbrev pub IsFirstDifference : Image → Image → Option Table → Type 0
IsFirstDifference i j None = i ≡ j
IsFirstDifference i j (Some t) = (SameTable t i j → ⊥) × SameUpTo (rank t) i j

-- Images that have the same rows in all tables are the same.
abbrev pub TablesMakeImages : Type 0
TablesMakeImages = (i j : Image) → ((t : Table) → SameTable t i j) → i ≡ j

-- ---- rows in pairs

-- of a route, the two have the same in this table
abbrev pub SameRoute : Table → RouteRow → RouteRow → Type 0
SameRoute table.Mark a b = marks_row a ≡ marks_row b
SameRoute table.Ref a b = refs_row a ≡ refs_row b
SameRoute table.Span a b = spans_row a ≡ spans_row b
SameRoute _ a b = course_row a ≡ course_row b

-- as many rows, and each pair is the same
abbrev pub AreEach : {X : Type 0} → (X → X → Type 0) → List X → List X → Type 0
AreEach same [] [] = ⊤
AreEach same (x ∷ xs) (y ∷ ys) = same x y × AreEach same xs ys
AreEach same [] (y ∷ ys) = ⊥
AreEach same (x ∷ xs) [] = ⊥

-- The first of these rows is passed over, and whether it is so; there is none to be so if there are no rows.
abbrev pub TakesNext : {X : Type 0} → (X → Type 0) → List X → List X → Bool → Type 0
TakesNext is [] left result = result ≡ false
TakesNext is (x ∷ xs) left result = (left ≡ xs) × (IsTrue result ↔ is x)
