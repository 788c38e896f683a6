-- Entered pieces and marks are told apart by their texts.
use Rattle.std.proofs.Common.{◌≡◌, ℕ, Bool, true, false, ◌&&◌, List, [], ◌∷◌, Option, Some, None, refl, sym, ap, arith}
use Rattle.std.specs.Prelude.{nat_le, codes, length, map, if◌then◌else◌}
use Rattle.std.specs.List.{list_all, join_with_byte}
use Rattle.std.specs.Fmt.{decimal}
use Rattle.std.specs.Char.{is_ascii_digit}
use Rattle.std.proofs.lemmas.Bool.{false≢true, and_parts, and_from}
use Rattle.lrs_measure.specs.Lists.{is_from_to}
use Rattle.lrs_measure.specs.Limits.{is_link_number, longest_link, longest_route, most_pieces, most_marks, greatest_measure}
use Rattle.lrs_element.specs.declared.link.Piece.{Piece}
use Rattle.lrs_element.specs.declared.marks.Mark.{Mark}
use Rattle.lrs_machine.specs.EnteredNumbers.{is_chainage, is_entered_piece, are_entered_pieces, is_entered_mark, are_entered_marks}
use Rattle.lrs_machine.specs.Lines.{Text, piece_text, mark_text, pieces_text, some_pieces_text, marks_text}
use Rattle.lrs_machine.specs.WellFormedCommands.{ArePieces}
use Rattle.lrs_machine.proofs.Joined.{Lacks, AllLack, is_other, lacks-joined, joined_apart, starts_with, differ, not_empty}
use Rattle.lrs_machine.proofs.Decimals.{IsSmall, small_below, small_from_to, lacks-decimal, decimals_apart}

-- the numbers of a piece
record IsSmallPiece (p : Piece) : Type 0 where
  link : IsSmall p.link
  from : IsSmall p.from
  to : IsSmall p.to

-- the numbers of an entered piece are small
piece_entered : (p : Piece) → is_entered_piece p ≡ true → IsSmallPiece p
piece_entered p h =
    let outer = and_parts (is_link_number p.link && nat_le p.from longest_link) (nat_le p.to longest_link) h in
    let inner = and_parts (is_link_number p.link) (nat_le p.from longest_link) outer.0 in
    let limit : IsSmall longest_link = record { bound = omega arith } in
    record { link = small_from_to 1 999_999 p.link inner.0 (record { bound = omega arith }); from = small_below longest_link p.from inner.1 limit; to = small_below longest_link p.to outer.1 limit }

-- the direction of a piece
abbrev direction_text : Bool → Text
direction_text forward = if forward then codes "+" else codes "-"

-- equal texts come only of equal directions
directions_apart : (a b : Bool) → direction_text a ≡ direction_text b → a ≡ b
directions_apart true true e = refl
directions_apart false false e = refl
directions_apart true false e = absurd (differ (starts_with 43) (codes "+") (codes "-") e refl refl)
directions_apart false true e = absurd (differ (starts_with 45) (codes "-") (codes "+") e refl refl)

-- the text of a direction lacks what is no sign
lacks-direction : (c : ℕ) (forward : Bool) → is_other c 43 ≡ true → is_other c 45 ≡ true → Lacks c (direction_text forward)
lacks-direction c true plus minus = and_from (is_other c 43) true plus refl
lacks-direction c false plus minus = and_from (is_other c 45) true minus refl

-- the parts of a piece's text lack a byte that is neither a digit nor a sign
lacks-piece_parts : (c : ℕ) (p : Piece) → IsSmallPiece p → is_ascii_digit c ≡ false → is_other c 43 ≡ true → is_other c 45 ≡ true
    → AllLack c (decimal p.link ∷ decimal p.from ∷ decimal p.to ∷ direction_text p.forward ∷ [])
lacks-piece_parts c p small u plus minus =
    (lacks-decimal c p.link u small.link, (lacks-decimal c p.from u small.from, (lacks-decimal c p.to u small.to, (lacks-direction c p.forward plus minus, tt))))

-- pieces of equal parts are equal
pieces_alike : (p q : Piece) → p.link ≡ q.link → p.from ≡ q.from → p.to ≡ q.to → p.forward ≡ q.forward → p ≡ q
pieces_alike p q link a b forward = λ i. record { link = link i; from = a i; to = b i; forward = forward i }

-- equal texts come only of equal pieces
piece_apart : (p q : Piece) → IsSmallPiece p → IsSmallPiece q → piece_text p ≡ piece_text q → p ≡ q
piece_apart p q g h e =
    let same = joined_apart 58 (decimal p.link) (decimal q.link) (decimal p.from ∷ decimal p.to ∷ direction_text p.forward ∷ []) (decimal q.from ∷ decimal q.to ∷ direction_text q.forward ∷ []) refl
    (lacks-piece_parts 58 p g refl refl refl) (lacks-piece_parts 58 q h refl refl refl) e in
    let link : decimal p.link ≡ decimal q.link = cc in
    let a : decimal p.from ≡ decimal q.from = cc in
    let b : decimal p.to ≡ decimal q.to = cc in
    let forward : direction_text p.forward ≡ direction_text q.forward = cc in
    pieces_alike p q (decimals_apart p.link q.link g.link h.link link) (decimals_apart p.from q.from g.from h.from a) (decimals_apart p.to q.to g.to h.to b) (directions_apart p.forward q.forward forward)

-- and so piece by piece
each_piece_apart : (ps qs : List Piece) → list_all is_entered_piece ps ≡ true → list_all is_entered_piece qs ≡ true → map piece_text ps ≡ map piece_text qs → ps ≡ qs
each_piece_apart [] [] g h e = refl
each_piece_apart [] (q ∷ qs) g h e = cc
each_piece_apart (p ∷ ps) [] g h e = cc
each_piece_apart (p ∷ ps) (q ∷ qs) g h e =
    let here = and_parts (is_entered_piece p) (list_all is_entered_piece ps) g in
    let there = and_parts (is_entered_piece q) (list_all is_entered_piece qs) h in
    let first : piece_text p ≡ piece_text q = cc in
    let others : map piece_text ps ≡ map piece_text qs = cc in
    let same = piece_apart p q (piece_entered p here.0) (piece_entered q there.0) first in
    let more = each_piece_apart ps qs here.1 there.1 others in
    λ i. same i ∷ more i

-- a piece's text lacks what is neither a digit nor a sign nor a colon
lacks-piece : (c : ℕ) (p : Piece) → is_entered_piece p ≡ true → is_ascii_digit c ≡ false → is_other c 43 ≡ true → is_other c 45 ≡ true → is_other c 58 ≡ true → Lacks c (piece_text p)
lacks-piece c p h u plus minus colon = lacks-joined c 58 (decimal p.link ∷ decimal p.from ∷ decimal p.to ∷ direction_text p.forward ∷ []) colon (lacks-piece_parts c p (piece_entered p h) u plus minus)

-- and so each text of a list of pieces
lacks-each_piece : (c : ℕ) (ps : List Piece) → list_all is_entered_piece ps ≡ true → is_ascii_digit c ≡ false → is_other c 43 ≡ true → is_other c 45 ≡ true → is_other c 58 ≡ true → AllLack c (map piece_text ps)
lacks-each_piece c [] h u plus minus colon = tt
lacks-each_piece c (p ∷ ps) h u plus minus colon =
    let both = and_parts (is_entered_piece p) (list_all is_entered_piece ps) h in
    (lacks-piece c p both.0 u plus minus colon, lacks-each_piece c ps both.1 u plus minus colon)

-- each of entered pieces is an entered one
each_entered_piece : (ps : List Piece) → are_entered_pieces ps ≡ true → list_all is_entered_piece ps ≡ true
each_entered_piece ps h = (and_parts (is_from_to 1 most_pieces (length ps)) (list_all is_entered_piece ps) h).1

-- equal texts come only of equal lists of pieces
pub pieces_apart : (ps qs : List Piece) → are_entered_pieces ps ≡ true → are_entered_pieces qs ≡ true → pieces_text ps ≡ pieces_text qs → ps ≡ qs
pieces_apart [] qs g h e = absurd (false≢true g)
pieces_apart (p ∷ ps) [] g h e = absurd (false≢true h)
pieces_apart (p ∷ ps) (q ∷ qs) g h e =
    let here = each_entered_piece (p ∷ ps) g in
    let there = each_entered_piece (q ∷ qs) h in
    each_piece_apart (p ∷ ps) (q ∷ qs) here there
    (joined_apart 32 (piece_text p) (piece_text q) (map piece_text ps) (map piece_text qs) refl
    (lacks-each_piece 32 (p ∷ ps) here refl refl refl refl) (lacks-each_piece 32 (q ∷ qs) there refl refl refl refl) e)

-- the text of entered pieces has no comma
pub lacks-pieces : (ps : List Piece) → are_entered_pieces ps ≡ true → Lacks 44 (pieces_text ps)
lacks-pieces ps h = lacks-joined 44 32 (map piece_text ps) refl (lacks-each_piece 44 ps (each_entered_piece ps h) refl refl refl refl)

-- pieces are not an empty text
pieces_not_empty : (ps : List Piece) → are_entered_pieces ps ≡ true → pieces_text ps ≡ [] → ⊥
pieces_not_empty [] h e = false≢true h
pieces_not_empty (p ∷ []) h e = not_empty 58 (decimal p.link) (join_with_byte 58 (decimal p.from ∷ decimal p.to ∷ direction_text p.forward ∷ [])) e
pieces_not_empty (p ∷ q ∷ ps) h e = not_empty 32 (piece_text p) (pieces_text (q ∷ ps)) e

-- equal texts come only of equal pieces, and an empty one only of none
pub some_pieces_apart : (x y : Option (List Piece)) → ArePieces x → ArePieces y → some_pieces_text x ≡ some_pieces_text y → x ≡ y
some_pieces_apart None None g h e = refl
some_pieces_apart None (Some qs) g h e = absurd (pieces_not_empty qs h (sym e))
some_pieces_apart (Some ps) None g h e = absurd (pieces_not_empty ps g e)
some_pieces_apart (Some ps) (Some qs) g h e = ap Some (pieces_apart ps qs g h e)

-- and it has no comma
pub lacks-some_pieces : (x : Option (List Piece)) → ArePieces x → Lacks 44 (some_pieces_text x)
lacks-some_pieces None h = refl
lacks-some_pieces (Some ps) h = lacks-pieces ps h

-- the numbers of a mark
record IsSmallMark (m : Mark) : Type 0 where
  chainage : IsSmall m.chainage
  measure : IsSmall m.measure

-- the numbers of an entered mark are small
mark_entered : (m : Mark) → is_entered_mark m ≡ true → IsSmallMark m
mark_entered m h =
    let both = and_parts (is_chainage m.chainage) (nat_le m.measure greatest_measure) h in
    record { chainage = small_below longest_route m.chainage both.0 (record { bound = omega arith }); measure = small_below greatest_measure m.measure both.1 (record { bound = omega arith }) }

-- the parts of a mark's text lack what is not a digit
lacks-mark_parts : (c : ℕ) (m : Mark) → IsSmallMark m → is_ascii_digit c ≡ false → AllLack c (decimal m.chainage ∷ decimal m.measure ∷ [])
lacks-mark_parts c m small u = (lacks-decimal c m.chainage u small.chainage, (lacks-decimal c m.measure u small.measure, tt))

-- marks of equal parts are equal
marks_alike : (m n : Mark) → m.chainage ≡ n.chainage → m.measure ≡ n.measure → m ≡ n
marks_alike m n chainage measure = λ i. record { chainage = chainage i; measure = measure i }

-- equal texts come only of equal marks
mark_apart : (m n : Mark) → IsSmallMark m → IsSmallMark n → mark_text m ≡ mark_text n → m ≡ n
mark_apart m n g h e =
    let same = joined_apart 58 (decimal m.chainage) (decimal n.chainage) (decimal m.measure ∷ []) (decimal n.measure ∷ []) refl (lacks-mark_parts 58 m g refl) (lacks-mark_parts 58 n h refl) e in
    let chainage : decimal m.chainage ≡ decimal n.chainage = cc in
    let measure : decimal m.measure ≡ decimal n.measure = cc in
    marks_alike m n (decimals_apart m.chainage n.chainage g.chainage h.chainage chainage) (decimals_apart m.measure n.measure g.measure h.measure measure)

-- and so mark by mark
each_mark_apart : (ms ns : List Mark) → list_all is_entered_mark ms ≡ true → list_all is_entered_mark ns ≡ true → map mark_text ms ≡ map mark_text ns → ms ≡ ns
each_mark_apart [] [] g h e = refl
each_mark_apart [] (n ∷ ns) g h e = cc
each_mark_apart (m ∷ ms) [] g h e = cc
each_mark_apart (m ∷ ms) (n ∷ ns) g h e =
    let here = and_parts (is_entered_mark m) (list_all is_entered_mark ms) g in
    let there = and_parts (is_entered_mark n) (list_all is_entered_mark ns) h in
    let first : mark_text m ≡ mark_text n = cc in
    let others : map mark_text ms ≡ map mark_text ns = cc in
    let same = mark_apart m n (mark_entered m here.0) (mark_entered n there.0) first in
    let more = each_mark_apart ms ns here.1 there.1 others in
    λ i. same i ∷ more i

-- a mark's text lacks what is neither a digit nor a colon
lacks-each_mark : (c : ℕ) (ms : List Mark) → list_all is_entered_mark ms ≡ true → is_ascii_digit c ≡ false → is_other c 58 ≡ true → AllLack c (map mark_text ms)
lacks-each_mark c [] h u colon = tt
lacks-each_mark c (m ∷ ms) h u colon =
    let both = and_parts (is_entered_mark m) (list_all is_entered_mark ms) h in
    (lacks-joined c 58 (decimal m.chainage ∷ decimal m.measure ∷ []) colon (lacks-mark_parts c m (mark_entered m both.0) u), lacks-each_mark c ms both.1 u colon)

-- each of entered marks is an entered one
each_entered_mark : (ms : List Mark) → are_entered_marks ms ≡ true → list_all is_entered_mark ms ≡ true
each_entered_mark ms h = (and_parts (is_from_to 2 most_marks (length ms)) (list_all is_entered_mark ms) h).1

-- equal texts come only of equal lists of marks
pub marks_apart : (ms ns : List Mark) → are_entered_marks ms ≡ true → are_entered_marks ns ≡ true → marks_text ms ≡ marks_text ns → ms ≡ ns
marks_apart [] ns g h e = absurd (false≢true g)
marks_apart (m ∷ ms) [] g h e = absurd (false≢true h)
marks_apart (m ∷ ms) (n ∷ ns) g h e =
    let here = each_entered_mark (m ∷ ms) g in
    let there = each_entered_mark (n ∷ ns) h in
    each_mark_apart (m ∷ ms) (n ∷ ns) here there
    (joined_apart 32 (mark_text m) (mark_text n) (map mark_text ms) (map mark_text ns) refl (lacks-each_mark 32 (m ∷ ms) here refl refl) (lacks-each_mark 32 (n ∷ ns) there refl refl) e)

-- the text of entered marks has no comma
pub lacks-marks : (ms : List Mark) → are_entered_marks ms ≡ true → Lacks 44 (marks_text ms)
lacks-marks ms h = lacks-joined 44 32 (map mark_text ms) refl (lacks-each_mark 44 ms (each_entered_mark ms h) refl refl)
