-- Courses: what a list of pieces runs over, one entry for each millimetre (ISO 19148: linear element).
use Rattle.std.specs.Prelude.{◌≡◌, ℕ, ◌+◌, ◌-◌, ◌<◌, Bool, false, ◌||◌, ◌&&◌, not, nat_lt, nat_le, nat_eq, if◌then◌else◌, List, [], ◌∷◌, ◌++◌, map, reverse, length, Option, Some, None, slice_get}
use Rattle.std.specs.List.{range_with_len, list_any, flat_map, find, position, AllByRecursion}
use Rattle.std.specs.Option.{option_map, option_map_or}
use Rattle.lrs_measure.specs.Lists.{same_bool, each_two}
use Rattle.lrs_element.specs.declared.link.Link.{Link}
use Rattle.lrs_element.specs.declared.link.Piece.{Piece}
use Rattle.lrs_element.specs.declared.link.Ground.{Ground}
use Rattle.lrs_measure.specs.Limits.{longest_route, most_pieces}

-- the millimetres of a piece in the order in which it runs over them
abbrev pub millimetres : Piece → List ℕ
millimetres p = if p.forward then range_with_len p.from (p.to - p.from) else reverse (range_with_len p.from (p.to - p.from))

-- the expanded piece, one entry for each millimetre
abbrev pub expand : Piece → List Ground
expand p = map (λ k. record { link = p.link; mm = k; forward = p.forward }) (millimetres p)

-- the expanded course of a list of pieces: their lists one after another
abbrev pub course_of : List Piece → List Ground
course_of pieces = flat_map expand pieces

-- a millimetre of the ground, by its link and its distance along it, whichever way a course runs over it
abbrev pub Millimetre : Type 0
Millimetre = ℕ × ℕ

abbrev pub is_at : Millimetre → Ground → Bool
is_at (link, mm) g = nat_eq g.link link && nat_eq g.mm mm

-- whether a course runs over the millimetre
abbrev pub runs_over : List Ground → Millimetre → Bool
runs_over course m = list_any (is_at m) course

-- whether the two have a millimetre in common
abbrev pub meets : List Ground → List Ground → Bool
meets xs ys = list_any (λ g. runs_over ys (g.link, g.mm)) xs

-- the ground millimetre at an entry of a course
abbrev pub ground_at : List Ground → ℕ → Option Millimetre
ground_at course j = option_map (λ g. (g.link, g.mm)) (slice_get course j)

-- at which entry of a course a ground millimetre is
abbrev pub chainage_on : List Ground → Millimetre → Option ℕ
chainage_on course m = position (is_at m) course

-- the course from its other end
abbrev pub turned : List Ground → List Ground
turned course = reverse (map (λ g. record { link = g.link; mm = g.mm; forward = not g.forward }) course)

-- whether h goes on from g on one link in one direction
abbrev pub continues : Ground → Ground → Bool
continues g h = nat_eq g.link h.link && same_bool g.forward h.forward && (if g.forward then nat_eq h.mm (g.mm + 1) else nat_eq g.mm (h.mm + 1))

-- in how few pieces a course can be written: its maximal runs of entries that continue each other
abbrev pub piece_count : List Ground → ℕ
piece_count [] = 0
piece_count (g ∷ []) = 1
piece_count (g ∷ h ∷ rest) = if continues g h then piece_count (h ∷ rest) else piece_count (h ∷ rest) + 1

-- above 1,000 pieces or 10,000,000,000 millimetres
abbrev pub is_too_long : List Ground → Bool
is_too_long course = nat_lt most_pieces (piece_count course) || nat_lt longest_route (length course)

-- Each piece has a millimetre, and there are no more pieces than the course needs.
pub record IsFewest (pieces : List Piece) : Type 0 where
  pub filled : AllByRecursion (λ p. p.from < p.to) pieces
  pub fewest : length pieces ≡ piece_count (course_of pieces)

-- the piece is of no link
abbrev pub lacks_link : List Link → Piece → Bool
lacks_link links p = not (list_any (λ l. nat_eq l.number p.link) links)

-- in the order of their numbers, each number once
abbrev pub are_in_order : List Link → Bool
are_in_order links = each_two (λ a b. nat_lt a.number b.number) links

-- the length of a link, 0 where there is none of this number
abbrev pub length_of : List Link → ℕ → ℕ
length_of links n = option_map_or (λ l. l.length) (find (λ l. nat_eq l.number n) links) 0

-- the piece has no millimetre, or goes past the end of its link
abbrev pub is_bad_piece : List Link → Piece → Bool
is_bad_piece links p = nat_le p.to p.from || nat_lt (length_of links p.link) p.to

-- whether the two run over a millimetre of the link
abbrev pub share_link : List Ground → List Ground → ℕ → Bool
share_link xs ys n = list_any (λ g. nat_eq g.link n && runs_over ys (g.link, g.mm)) xs

-- the first piece that shares a millimetre with one before it, or with what stands before them all
abbrev pub first_repeated : List Ground → List Piece → Option ℕ
first_repeated before [] = None
first_repeated before (p ∷ ps) = if meets (expand p) before then Some 0 else option_map (λ i. i + 1) (first_repeated (before ++ expand p) ps)

-- Nothing is wrong with the pieces of a course.
pub record AreGood (links : List Link) (pieces : List Piece) : Type 0 where
  pub linked : position (lacks_link links) pieces ≡ None
  pub filled : position (is_bad_piece links) pieces ≡ None
  pub once : first_repeated [] pieces ≡ None
  pub limits : is_too_long (course_of pieces) ≡ false
