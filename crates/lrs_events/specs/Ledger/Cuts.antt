-- What a run on one side of a course has of each piece of the course.
use Rattle.std.specs.Prelude.{◌≡◌, ℕ, ◌+◌, ◌-◌, nat_lt, min, if◌then◌else◌, List, [], ◌∷◌, ◌++◌}
use Rattle.std.specs.List.{flat_map}
use Rattle.lrs_element.specs.declared.link.Piece.{Piece}
use Rattle.lrs_element.specs.declared.link.Ground.{Ground}
use Rattle.lrs_element.specs.Course.{course_of, IsFewest}
use Rattle.lrs_element.specs.Pieces.{piece_len}
use Rattle.lrs_events.specs.declared.part.Part.{Part}
use Rattle.lrs_events.specs.declared.side.LinkSide.{LinkSide}
use Rattle.lrs_events.specs.declared.side.LinkSide.TheVariants.{Left, Right}
use Rattle.lrs_events.specs.declared.span.Span.{Span}
use Rattle.lrs_events.specs.Places.{along_link}
use Rattle.lrs_events.specs.declared.ledgers.run.Run.{Run}
use Rattle.lrs_events.specs.Ledger.Runs.{runs_from}

-- a piece from its place low up to its place high, on a side of the course
abbrev pub part_between : ℕ → ℕ → LinkSide → Piece → ℕ → ℕ → Part
part_between edit asset s p low high = record {
  edit = edit;
  asset = asset;
  link = p.link;
  from = (if p.forward then p.from + low else p.to - high);
  to = (if p.forward then p.from + high else p.to - low);
  side = along_link p.forward s;
}

-- what the run has of a piece that begins at this chainage
abbrev pub parts_in : ℕ → Run → LinkSide → ℕ → Piece → List Part
parts_in edit run s start p =
    if nat_lt (run.from - start) (min (run.to - start) (piece_len p)) then part_between edit run.asset s p (run.from - start) (min (run.to - start) (piece_len p)) ∷ [] else []

-- ... and of the pieces from there on
abbrev pub parts_from : ℕ → Run → LinkSide → ℕ → List Piece → List Part
parts_from edit run s start [] = []
parts_from edit run s start (p ∷ ps) = parts_in edit run s start p ++ parts_from edit run s (start + piece_len p) ps

-- what rows have of a course's pieces on one side
abbrev pub side_parts : ℕ → List Span → LinkSide → List Piece → List Part
side_parts edit rows s pieces = flat_map (λ run. parts_from edit run s 0 pieces) (runs_from s [] rows)

-- ... and on both
abbrev pub all_parts : ℕ → List Span → List Piece → List Part
all_parts edit rows pieces = side_parts edit rows Left pieces ++ side_parts edit rows Right pieces

-- the parts are what the rows have of the fewest pieces of the course
pub record AreCut (edit : ℕ) (rows : List Span) (course : List Ground) (parts : List Part) : Type 0 where
  pub pieces : List Piece
  pub fewest : IsFewest pieces
  pub run_over : course_of pieces ≡ course
  pub cut : parts ≡ all_parts edit rows pieces
