-- What the printed texts of numbers, lists and positions say.
use Rattle.std.proofs.Common.{◌≡◌, ℕ, ◌+◌, ◌<◌, ◌≤◌, ◌^◌, Bool, true, false, List, [], ◌∷◌, ◌++◌, length, take, drop, refl, sym, ap, ◌∙◌, arith, append_assoc}
use Rattle.std.specs.Prelude.{◌==◌, ◌&&◌, nat_le, nat_eq, not, codes, map, ℤ, pos, negsuc, ◌*ℤ◌, suc, unsigned_abs, if◌then◌else◌}
use Rattle.std.specs.List.{list_all, join_with_byte, position_or_len}
use Rattle.std.specs.Char.{is_ascii_digit}
use Rattle.std.specs.Fmt.{decimal}
use Rattle.std.specs.Str.Parse.{digits_value}
use Rattle.std.proofs.Math.Seq.{take-append_seam, drop-append_seam, drop-append-add}
use Rattle.std.proofs.lemmas.Bool.{false≢true, and_parts, and_from, eqb-true}
use Rattle.std.proofs.lemmas.Bool.Decides.{nat_tests}
use Rattle.std.proofs.lemmas.Fmt.{decimal_is_IsNumeral}
use Rattle.std.proofs.lemmas.List.Splits.{slice_split-cons_no, slice_split-cons_yes}
use Rattle.lrs_measure.specs.Alphabets.{is_capital, has_length}
use Rattle.lrs_measure.specs.Fraction.{Fraction, IsLowest}
use Rattle.lrs_measure.specs.Lists.{is_from_to}
use Rattle.lrs_measure.specs.Numerals.{IsSigned, numerator_text, denominator_text, signed_value}
use Rattle.lrs_measure.specs.Limits.{is_link_number, longest_link, longest_route, greatest_measure, most_pieces, most_marks}
use Rattle.lrs_element.specs.declared.link.Piece.{Piece}
use Rattle.lrs_element.specs.declared.marks.Mark.{Mark}
use Rattle.lrs_position.specs.Expressions.{is_entered, is_negative, greatest_denominator}
use Rattle.lrs_position.specs.Names.{is_referent_name}
use Rattle.lrs_position.specs.Readings.{States, StatesMeasure, StatesDistance, StatesProportion, distance_text, is_sign, name_text, whole}
use Rattle.lrs_position.specs.declared.expression.Expr.{Expr}
use Rattle.lrs_position.specs.declared.expression.Expr.TheVariants.{Abs, Rel, Int}
use Rattle.lrs_machine.specs.EnteredNumbers.{is_chainage, is_entered_piece, is_entered_mark, are_entered_pieces, are_entered_marks}
use Rattle.lrs_machine.specs.Lines.{Text, expression_text, mark_text, marks_text, piece_text, pieces_text, signed_text}
use Rattle.lrs_machine.specs.WellFormedCommands.{IsPosition}
use Rattle.lrs_machine.proofs.Decimals.{decimal_passes, lacks-decimal}
use Rattle.lrs_machine.proofs.Joined.{AllLack, Lacks, is_other, lacks-joined}
use Rattle.lrs_sheet_records.specs.CanonicalRecords.{IsInLowestTerms}
use Rattle.lrs_sheet_records.specs.Shapes.{At}
use Rattle.lrs_sheet_records.specs.Verbs.{method_of}
use Rattle.lrs_sheet_records.specs.Words.{AreSaid, IsMarkText, IsPieceText, SaysNumber, parts_of, words_of}

-- a number is said by its decimal
pub decimal-says : (low high n : ℕ) → low ≤ n → n ≤ high → high < 2 ^ 64 → SaysNumber low high (decimal n) n
decimal-says low high n least most small =
    let (digits, value) = decimal_is_IsNumeral n (omega (arith, most, small)) in
    record { digits = digits; value = sym value; least = least; most = most }

pub below : (most n : ℕ) → nat_le n most ≡ true → n ≤ most
below most n h = grind (arith, nat_tests)

-- the bounds of a number between two
pub from-to : (low high n : ℕ) → is_from_to low high n ≡ true → (low ≤ n) × (n ≤ high)
from-to low high n h =
    let both = and_parts (nat_le low n) (nat_le n high) h in
    (below n low both.0, below high n both.1)

not-that : (b : Bool) → not b ≡ true → b ≡ false
not-that true h = absurd (false≢true h)
not-that false h = refl

-- a text that lacks the byte is one part
split-one : (c : ℕ) (x : Text) → Lacks c x → parts_of c x ≡ x ∷ []
split-one c [] h = refl
split-one c (b ∷ x) h =
    let both = and_parts (is_other c b) (list_all (is_other c) x) h in
    slice_split-cons_no (λ (byte : ℕ). byte == c) b x (not-that (b == c) both.0) ∙ rw (split-one c x both.1) refl

-- and before the byte it is the first part
split-more : (c : ℕ) (x y : Text) → Lacks c x → is_other c c ≡ false → parts_of c (x ++ c ∷ y) ≡ x ∷ parts_of c y
split-more c [] y h own = slice_split-cons_yes (λ (byte : ℕ). byte == c) c y (that (c == c) own)
  where
    that : (b : Bool) → not b ≡ false → b ≡ true
    that true e = refl
    that false e = absurd (false≢true (sym e))
split-more c (b ∷ x) y h own =
    let both = and_parts (is_other c b) (list_all (is_other c) x) h in
    slice_split-cons_no (λ (byte : ℕ). byte == c) b (x ++ c ∷ y) (not-that (b == c) both.0) ∙ rw (split-more c x y both.1 own) refl

-- the parts of joined texts are the texts
pub split-joined : (c : ℕ) (x : Text) (xs : List Text) → is_other c c ≡ false → AllLack c (x ∷ xs) → parts_of c (join_with_byte c (x ∷ xs)) ≡ x ∷ xs
split-joined c x [] own h = split-one c x h.0
split-joined c x (y ∷ xs) own h = split-more c x (join_with_byte c (y ∷ xs)) h.0 own ∙ ap (λ (texts : List Text). x ∷ texts) (split-joined c y xs own h.1)

-- the numbers of an entered piece
record IsPieceIn (p : Piece) : Type 0 where
  link : (1 ≤ p.link) × (p.link ≤ 999_999)
  from : p.from ≤ longest_link
  to : p.to ≤ longest_link

piece-in : (p : Piece) → is_entered_piece p ≡ true → IsPieceIn p
piece-in p h =
    let outer = and_parts (is_link_number p.link && nat_le p.from longest_link) (nat_le p.to longest_link) h in
    let inner = and_parts (is_link_number p.link) (nat_le p.from longest_link) outer.0 in
    record { link = from-to 1 999_999 p.link inner.0; from = below longest_link p.from inner.1; to = below longest_link p.to outer.1 }

-- the direction of a piece
abbrev sign : Bool → Text
sign forward = if forward then codes "+" else codes "-"

lacks-sign : (c : ℕ) (forward : Bool) → is_other c 43 ≡ true → is_other c 45 ≡ true → Lacks c (sign forward)
lacks-sign c true plus minus = and_from (is_other c 43) true plus refl
lacks-sign c false plus minus = and_from (is_other c 45) true minus refl

-- the parts of a piece's text
lacks-parts : (c : ℕ) (p : Piece) → IsPieceIn p → is_ascii_digit c ≡ false → is_other c 43 ≡ true → is_other c 45 ≡ true → AllLack c (decimal p.link ∷ decimal p.from ∷ decimal p.to ∷ sign p.forward ∷ [])
lacks-parts c p h u plus minus = (
  lacks-decimal c p.link u (record { bound = omega (arith, h.link.1) }),
  (lacks-decimal c p.from u (record { bound = omega (arith, h.from) }), (lacks-decimal c p.to u (record { bound = omega (arith, h.to) }), (lacks-sign c p.forward plus minus, tt))),
)

-- a piece is said by its text
piece-says : (p : Piece) → IsPieceIn p → IsPieceText (piece_text p) p
piece-says p h =
    let split = split-joined 58 (decimal p.link) (decimal p.from ∷ decimal p.to ∷ sign p.forward ∷ []) refl (lacks-parts 58 p h refl refl refl) in
    let link = decimal-says 1 999_999 p.link h.link.0 h.link.1 (omega arith) in
    let a = decimal-says 0 longest_link p.from (omega arith) h.from (omega arith) in
    let b = decimal-says 0 longest_link p.to (omega arith) h.to (omega arith) in
    record { four = rw split refl; link = rw split link; from = rw split a; to = rw split b; direction = rw split refl }

-- the texts of pieces have no space
lacks-pieces : (ps : List Piece) → list_all is_entered_piece ps ≡ true → AllLack 32 (map piece_text ps)
lacks-pieces [] h = tt
lacks-pieces (p ∷ ps) h =
    let both = and_parts (is_entered_piece p) (list_all is_entered_piece ps) h in
    (lacks-joined 32 58 (decimal p.link ∷ decimal p.from ∷ decimal p.to ∷ sign p.forward ∷ []) refl (lacks-parts 32 p (piece-in p both.0) refl refl refl), lacks-pieces ps both.1)

each-piece : (ps : List Piece) → list_all is_entered_piece ps ≡ true → AreSaid IsPieceText (map piece_text ps) ps
each-piece [] h = tt
each-piece (p ∷ ps) h =
    let both = and_parts (is_entered_piece p) (list_all is_entered_piece ps) h in
    (piece-says p (piece-in p both.0), each-piece ps both.1)

-- pieces are said by their text
pub pieces-say : (ps : List Piece) → are_entered_pieces ps ≡ true → AreSaid IsPieceText (words_of (pieces_text ps)) ps
pieces-say [] h = absurd (false≢true h)
pieces-say (p ∷ ps) h =
    let all = (and_parts (is_from_to 1 most_pieces (length (p ∷ ps))) (list_all is_entered_piece (p ∷ ps)) h).1 in
    rw (split-joined 32 (piece_text p) (map piece_text ps) refl (lacks-pieces (p ∷ ps) all)) (each-piece (p ∷ ps) all)

-- the parts of a mark's text
lacks-numbers : (c : ℕ) (m : Mark) → is_entered_mark m ≡ true → is_ascii_digit c ≡ false → AllLack c (decimal m.chainage ∷ decimal m.measure ∷ [])
lacks-numbers c m h u =
    let both = and_parts (is_chainage m.chainage) (nat_le m.measure greatest_measure) h in
    let chainage = below longest_route m.chainage both.0 in
    let measure = below greatest_measure m.measure both.1 in
    (lacks-decimal c m.chainage u (record { bound = omega (arith, chainage) }), (lacks-decimal c m.measure u (record { bound = omega (arith, measure) }), tt))

-- a mark is said by its text
mark-says : (m : Mark) → is_entered_mark m ≡ true → IsMarkText (mark_text m) m
mark-says m h =
    let both = and_parts (is_chainage m.chainage) (nat_le m.measure greatest_measure) h in
    let split = split-joined 58 (decimal m.chainage) (decimal m.measure ∷ []) refl (lacks-numbers 58 m h refl) in
    let chainage = decimal-says 0 longest_route m.chainage (omega arith) (below longest_route m.chainage both.0) (omega arith) in
    let measure = decimal-says 0 greatest_measure m.measure (omega arith) (below greatest_measure m.measure both.1) (omega arith) in
    record { two = rw split refl; chainage = rw split chainage; measure = rw split measure }

lacks-marks : (ms : List Mark) → list_all is_entered_mark ms ≡ true → AllLack 32 (map mark_text ms)
lacks-marks [] h = tt
lacks-marks (m ∷ ms) h =
    let both = and_parts (is_entered_mark m) (list_all is_entered_mark ms) h in
    (lacks-joined 32 58 (decimal m.chainage ∷ decimal m.measure ∷ []) refl (lacks-numbers 32 m both.0 refl), lacks-marks ms both.1)

each-mark : (ms : List Mark) → list_all is_entered_mark ms ≡ true → AreSaid IsMarkText (map mark_text ms) ms
each-mark [] h = tt
each-mark (m ∷ ms) h =
    let both = and_parts (is_entered_mark m) (list_all is_entered_mark ms) h in
    (mark-says m both.0, each-mark ms both.1)

-- marks are said by their text
pub marks-say : (ms : List Mark) → are_entered_marks ms ≡ true → AreSaid IsMarkText (words_of (marks_text ms)) ms
marks-say [] h = absurd (false≢true h)
marks-say (m ∷ ms) h =
    let all = (and_parts (is_from_to 2 most_marks (length (m ∷ ms))) (list_all is_entered_mark (m ∷ ms)) h).1 in
    rw (split-joined 32 (mark_text m) (map mark_text ms) refl (lacks-marks (m ∷ ms) all)) (each-mark (m ∷ ms) all)

one-more : (m n : ℕ) → m ≡ n → 1 + m ≡ suc n
one-more m n e = omega (arith, e)

-- the first place that passes, behind a text that does not
first-place : (test : ℕ → Bool) (x : Text) (c : ℕ) (y : Text) → list_all (λ b. not (test b)) x ≡ true → test c ≡ true → position_or_len test (x ++ c ∷ y) ≡ length x
first-place test [] c y h at = rw at refl
first-place test (b ∷ x) c y h at =
    let both = and_parts (not (test b)) (list_all (λ b. not (test b)) x) h in
    rw both.0 (one-more (position_or_len test (x ++ c ∷ y)) (length x) (first-place test x c y both.1 at))

-- what stands before it, from it on, and behind it
record IsCutAt (test : ℕ → Bool) (x : Text) (c : ℕ) (y : Text) : Type 0 where
  before : take (position_or_len test (x ++ c ∷ y)) (x ++ c ∷ y) ≡ x
  from_it : drop (position_or_len test (x ++ c ∷ y)) (x ++ c ∷ y) ≡ c ∷ y
  behind : drop (position_or_len test (x ++ c ∷ y) + 1) (x ++ c ∷ y) ≡ y

cut-at : (test : ℕ → Bool) (x : Text) (c : ℕ) (y : Text) → list_all (λ b. not (test b)) x ≡ true → test c ≡ true → IsCutAt test x c y
cut-at test x c y h at =
    let place = first-place test x c y h at in
    record {
      before = rw place (take-append_seam x (c ∷ y));
      from_it = rw place (drop-append_seam x (c ∷ y));
      behind = rw place (drop-append-add x (c ∷ y) 1);
    }

-- bytes of an alphabet do not pass a test of others
none-pass : (alphabet test : ℕ → Bool) (x : Text) → ((b : ℕ) → alphabet b ≡ true → not (test b) ≡ true) → list_all alphabet x ≡ true → list_all (λ b. not (test b)) x ≡ true
none-pass alphabet test [] other h = refl
none-pass alphabet test (b ∷ x) other h =
    let both = and_parts (alphabet b) (list_all alphabet x) h in
    and_from (not (test b)) (list_all (λ b. not (test b)) x) (other b both.0) (none-pass alphabet test x other both.1)

-- a number that is not negative
not-negative : (n : ℤ) → not (is_negative n) ≡ true → n ≡ pos (unsigned_abs n)
not-negative (pos n) h = refl
not-negative (negsuc n) h = absurd (false≢true h)

fraction-alike : (p q : Fraction) → p.num ≡ q.num → p.den ≡ q.den → p ≡ q
fraction-alike p q num den = λ i. record { num = num i; den = den i }

-- a measure is stated by its text
measure-stated : (m : Fraction) → is_entered (Abs m) ≡ true → StatesMeasure (expression_text (Abs m)) m
measure-stated m h =
    let outer = and_parts (nat_eq m.den 1 && not (is_negative m.num)) (nat_le (unsigned_abs m.num) greatest_measure) h in
    let inner = and_parts (nat_eq m.den 1) (not (is_negative m.num)) outer.0 in
    let limit = below greatest_measure (unsigned_abs m.num) outer.1 in
    let (digits, value) = decimal_is_IsNumeral (unsigned_abs m.num) (omega (arith, limit)) in
    record {
      digits = digits;
      limit = rw value limit;
      value = rw value (fraction-alike m (whole (pos (unsigned_abs m.num))) (not-negative m.num inner.1) (eqb-true m.den 1 inner.0));
    }

-- the text of a signed number
record IsSignedText (t : ℤ) : Type 0 where
  signed : IsSigned (signed_text t)
  size : digits_value 10 (drop 1 (signed_text t)) ≡ unsigned_abs t
  value : signed_value (signed_text t) ≡ t

signed-said : (t : ℤ) → unsigned_abs t ≤ longest_route → IsSignedText t
signed-said (pos n) h =
    let (digits, value) = decimal_is_IsNumeral n (omega (arith, h)) in
    record { signed = record { sign = refl; digits = digits }; size = value; value = ap pos value }
signed-said (negsuc n) h =
    let (digits, value) = decimal_is_IsNumeral (suc n) (omega (arith, h)) in
    record { signed = record { sign = refl; digits = digits }; size = value; value = rw value refl }

-- a capital or a digit is no sign
no-sign : (b : ℕ) → is_capital b ≡ true → not (is_sign b) ≡ true
no-sign b h = grind (arith, nat_tests)

-- the sign cuts the text of a distance
signed-cut : (name : Text) (t : ℤ) → list_all is_capital name ≡ true → (name_text (name ++ signed_text t) ≡ name) × (distance_text (name ++ signed_text t) ≡ signed_text t)
signed-cut name (pos n) h = let cut = cut-at is_sign name 43 (decimal n) (none-pass is_capital is_sign name no-sign h) refl in (cut.before, cut.from_it)
signed-cut name (negsuc n) h = let cut = cut-at is_sign name 45 (decimal (suc n)) (none-pass is_capital is_sign name no-sign h) refl in (cut.before, cut.from_it)

-- a distance is stated by its text
distance-stated : (name : Text) (t : Fraction) → is_entered (Rel name t) ≡ true → is_referent_name name ≡ true → StatesDistance (expression_text (Rel name t)) name t
distance-stated name t h referent =
    let both = and_parts (nat_eq t.den 1) (nat_le (unsigned_abs t.num) longest_route) h in
    let limit = below longest_route (unsigned_abs t.num) both.1 in
    let said = signed-said t.num limit in
    let (named, distance) = signed-cut name t.num (and_parts (has_length 12 name) (list_all is_capital name) referent).1 in
    record {
      referent = sym named;
      alphabet = referent;
      signed = rw distance said.signed;
      limit = rw distance (rw said.size limit);
      value = rw distance (fraction-alike t (whole (signed_value (signed_text t.num))) (sym said.value) (eqb-true t.den 1 both.0));
    }

-- a digit is no slash
no-slash : (b : ℕ) → is_ascii_digit b ≡ true → not (b == 47) ≡ true
no-slash b h = grind (arith, nat_tests)

-- a proportion in lowest terms is stated by its text
proportion-stated : (p : Fraction) → is_entered (Int p) ≡ true → IsLowest p → StatesProportion (expression_text (Int p)) p
proportion-stated p h lowest =
    let outer = and_parts (nat_le p.den greatest_denominator && not (is_negative p.num)) (nat_le (unsigned_abs p.num) p.den) h in
    let inner = and_parts (nat_le p.den greatest_denominator) (not (is_negative p.num)) outer.0 in
    let den = below greatest_denominator p.den inner.0 in
    let num = below p.den (unsigned_abs p.num) outer.1 in
    let (digits, value) = decimal_is_IsNumeral (unsigned_abs p.num) (omega (arith, num, den)) in
    let (digits', value') = decimal_is_IsNumeral p.den (omega (arith, den)) in
    let text : expression_text (Int p) ≡ decimal (unsigned_abs p.num) ++ 47 ∷ decimal p.den = append_assoc (decimal (unsigned_abs p.num)) (47 ∷ []) (decimal p.den) in
    let cut = cut-at (λ (byte : ℕ). byte == 47) (decimal (unsigned_abs p.num)) 47 (decimal p.den) (none-pass is_ascii_digit (λ (byte : ℕ). byte == 47) (decimal (unsigned_abs p.num)) no-slash (decimal_passes (unsigned_abs p.num) (record { bound = omega (arith, num, den) }))) refl in
    let above : numerator_text (expression_text (Int p)) ≡ decimal (unsigned_abs p.num) = ap numerator_text text ∙ cut.before in
    let under : denominator_text (expression_text (Int p)) ≡ decimal p.den = ap denominator_text text ∙ cut.behind in
    let positive = lowest.positive in
    record {
      fraction = record {
        numerator = rw above digits;
        denominator = rw under digits';
        numerator_fits = rw above (rw value (omega (arith, num, den)));
        denominator_fits = rw under (rw value' den);
        not_zero = rw under (rw value' positive);
      };
      at_most_whole = rw (above, under) (rw (value, value') num);
      value = rw (above, under) (rw (value, value') (ap (λ (n : ℤ). n *ℤ pos p.den) (not-negative p.num inner.1)));
      lowest = lowest;
    }

-- a position is stated by its text, by its method
pub position-stated : (e : Expr) → IsPosition e → IsInLowestTerms (At e) → States (method_of e) (expression_text e) e
position-stated (Abs m) h kept = measure-stated m h.entered
position-stated (Rel name t) h kept = distance-stated name t h.entered h.referent
position-stated (Int p) h kept = proportion-stated p h.entered kept
