-- Pieces one by one: how long they are, where they begin and end, and which continue which.
use Rattle.std.specs.Prelude.{◌≡◌, ℕ, ◌+◌, ◌-◌, ◌<◌, ◌≤◌, Bool, ◌&&◌, nat_lt, nat_eq, if◌then◌else◌, List, length, slice_index_or, slice_index, take, Option, Some, None}
use Rattle.lrs_element.specs.declared.link.Piece.{Piece}
use Rattle.lrs_element.specs.declared.link.Ground.{Ground}
use Rattle.lrs_element.specs.Course.{course_of}

-- how many millimetres a piece has
abbrev pub piece_len : Piece → ℕ
piece_len p = p.to - p.from

-- the millimetre at a piece's place i
abbrev pub ground_of : Piece → ℕ → Ground
ground_of p i = record { link = p.link; mm = (if p.forward then p.from + i else p.to - 1 - i); forward = p.forward }

-- the piece has a millimetre
abbrev pub IsFilled : Piece → Type 0
IsFilled p = p.from < p.to

-- the edges of a link where a piece begins and where it ends, in the direction in which it is run
abbrev pub begin_of : Piece → ℕ
begin_of p = if p.forward then p.from else p.to

abbrev pub end_of : Piece → ℕ
end_of p = if p.forward then p.to else p.from

-- the second piece goes on where the first one ends, on its link and in its direction
pub record Continues (p q : Piece) : Type 0 where
  pub same_link : p.link ≡ q.link
  pub same_direction : p.forward ≡ q.forward
  pub meets : end_of p ≡ begin_of q

-- the last piece stands at i, and p continues it
pub record IsContinuedAt (ps : List Piece) (i : ℕ) (p : Piece) : Type 0 where
  pub last : length ps ≡ i + 1
  pub continued : (d : Piece) → Continues (slice_index_or ps i d) p

-- the piece continues no last piece
abbrev pub ContinuesNone : List Piece → Piece → Type 0
ContinuesNone ps p = (k : ℕ) (d : Piece) → k + 1 ≡ length ps → Continues (slice_index_or ps k d) p → ⊥

-- the entry of a course at which its k-th piece starts
abbrev pub start_of : List Piece → ℕ → ℕ
start_of pieces k = length (course_of (take k pieces))

-- where each piece starts
pub record AreStarts (starts : List ℕ) (pieces : List Piece) : Type 0 where
  pub count : length starts ≡ length pieces
  pub start : (k : ℕ) → k < length pieces → slice_index starts k ≡ start_of pieces k

-- two pieces that have a millimetre have one in common
abbrev pub pieces_meet : Piece → Piece → Bool
pieces_meet p q = nat_eq p.link q.link && nat_lt p.from q.to && nat_lt q.from p.to

-- p is of a lower link than q, or of the same one and does not start behind it
pub record IsInOrder (p q : Piece) : Type 0 where
  pub link : p.link ≤ q.link
  pub start : p.link ≡ q.link → p.from ≤ q.from

-- the lesser of two links, one of which may be missing
abbrev pub lesser_link : Option ℕ → ℕ → ℕ
lesser_link None n = n
lesser_link (Some m) n = if nat_lt m n then m else n
