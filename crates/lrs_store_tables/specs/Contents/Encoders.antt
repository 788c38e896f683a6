-- The rows that stand for what is kept.
use Rattle.std.specs.Prelude.{◌≡◌, ℕ, ◌+◌, pos, Bool, true, false, List, [], ◌∷◌}
use Rattle.lrs_measure.specs.Texts.{Name}
use Rattle.lrs_element.specs.declared.link.Link.{Link}
use Rattle.lrs_element.specs.declared.link.Piece.{Piece}
use Rattle.lrs_element.specs.declared.link.Ground.{Ground}
use Rattle.lrs_element.specs.declared.marks.Mark.{Mark}
use Rattle.lrs_element.specs.Course.{course_of, IsFewest}
use Rattle.lrs_position.specs.declared.route.Referent.{Referent}
use Rattle.lrs_events.specs.declared.class.Kind.{Kind}
use Rattle.lrs_events.specs.declared.class.Kind.TheVariants.{Point, Stretch, Exclusive}
use Rattle.lrs_events.specs.declared.class.Class.{Class}
use Rattle.lrs_events.specs.declared.class.Asset.{Asset}
use Rattle.lrs_events.specs.declared.side.Side.{Side}
use Rattle.lrs_events.specs.declared.side.Side.TheVariants.{L, R, B}
use Rattle.lrs_events.specs.declared.side.LinkSide.{LinkSide}
use Rattle.lrs_events.specs.declared.side.LinkSide.TheVariants.{Left, Right}
use Rattle.lrs_events.specs.declared.span.Span.{Span}
use Rattle.lrs_events.specs.declared.part.Part.{Part}
use Rattle.lrs_events.specs.declared.part.Gone.{Gone}
use Rattle.lrs_machine.specs.declared.image.Edit.{Edit}
use Rattle.lrs_store_tables.specs.Contents.Tables.{LinkRow, ClassRow, AssetRow, PieceRow, MarkRow, RefRow, SpanRow, EnteredRow, GoneRow, EditRow}

-- 0 point, 1 stretch, 2 exclusive
abbrev pub kind_number : Kind → ℕ
kind_number Point = 0
kind_number Stretch = 1
kind_number Exclusive = 2

-- 0 L, 1 R, 2 B
abbrev pub side_number : Side → ℕ
side_number L = 0
side_number R = 1
side_number B = 2

-- 0 left, 1 right
abbrev pub link_side_number : LinkSide → ℕ
link_side_number Left = 0
link_side_number Right = 1

-- 0 forwards, 1 backwards
abbrev pub direction_number : Bool → ℕ
direction_number true = 0
direction_number false = 1

-- 0 retired, 1 abandoned
abbrev pub cause_number : Bool → ℕ
cause_number false = 0
cause_number true = 1

abbrev pub link_row : Link → LinkRow
link_row l = record { number = pos l.number; length = pos l.length }

abbrev pub class_row : Class → ClassRow
class_row c = record { name = c.name; kind = pos (kind_number c.kind) }

abbrev pub asset_row : Asset → AssetRow
asset_row a = record { number = pos a.number; class = a.class; value = a.value; lateral = pos a.lateral }

-- the n-th piece of a route
abbrev pub piece_row : Name → ℕ → Piece → PieceRow
piece_row route n p = record { route = route; n = pos n; link = pos p.link; a = pos p.from; b = pos p.to; dir = pos (direction_number p.forward) }

-- the n-th mark of a route
abbrev pub mark_row : Name → ℕ → Mark → MarkRow
mark_row route n m = record { route = route; n = pos n; chainage = pos m.chainage; measure = pos m.measure }

abbrev pub ref_row : Name → Referent → RefRow
ref_row route r = record { name = r.name; route = route; place = pos r.at }

abbrev pub span_row : Name → Span → SpanRow
span_row route s = record { asset = pos s.asset; route = route; lo = pos s.from; hi = pos s.to; side = pos (side_number s.side) }

abbrev pub entered_row : Part → EnteredRow
entered_row p = record { edit = pos p.edit; asset = pos p.asset; link = pos p.link; lo = pos p.from; hi = pos p.to; side = pos (link_side_number p.side) }

abbrev pub gone_row : Gone → GoneRow
gone_row g = record { cause = pos (cause_number g.abandoned); row = entered_row g.part }

-- the edit of this number
abbrev pub edit_row : ℕ → Edit → EditRow
edit_row n e = record { number = pos n; token = e.key; line = e.line }

-- the rows of a list, of which the first has the number n
abbrev pub numbered : {X Row : Type 0} → (ℕ → X → Row) → ℕ → List X → List Row
numbered row n [] = []
numbered row n (x ∷ xs) = row n x ∷ numbered row (n + 1) xs

-- the fewest pieces of a course
pub record ArePiecesOf (course : List Ground) (pieces : List Piece) : Type 0 where
  pub course_is : course_of pieces ≡ course
  pub fewest : IsFewest pieces
