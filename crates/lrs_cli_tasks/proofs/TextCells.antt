-- A CSV text whose cells are written as text, byte by byte.
use Rattle.std.proofs.Common.{◌≡◌, ◌∙◌, ◌<◌, ◌≤◌, ◌+◌, ℕ, zero, suc, Bool, true, false, cond, not, ◌||◌, List, [], ◌∷◌, ◌++◌, map, length, drop, get_or, Option, Some, None, refl, sym, ap, append_assoc, append-nil, drop-cons, eqb-true, arith}
use Rattle.std.specs.Prelude.{◌==◌}
use Rattle.std.specs.List.{join_with_byte, onto_first}
use Rattle.std.specs.Io.KnownBytes.{Appends}
use Rattle.std.proofs.lemmas.List.Splits.{length-slice_split}
use Rattle.lrs_machine.specs.Lines.{Text, fields}
use Rattle.lrs_report.proofs.Writing.{appends_more}
use Rattle.lrs_sheet_records.specs.Words.{parts_of}
use Rattle.lrs_cli_tasks.specs.Cells.{close_of, is_edge, marked, with_marks}
use Rattle.lrs_cli_tasks.specs.Lines.{text_cell, text_cells, text_line}

-- ---- the first cell of a text may be open before it

abbrev cell_from : Bool → Text → Text
cell_from true cell = cell ++ 34 ∷ 34 ∷ 34 ∷ []
cell_from false cell = text_cell cell

abbrev first_by : (Text → Text) → (Text → Text) → List Text → List Text
first_by f others [] = []
first_by f others (x ∷ xs) = f x ∷ map others xs

abbrev line_by : Bool → List Text → Text
line_by is_open cells = fields (first_by (cell_from is_open) text_cell cells)

abbrev line_from : Bool → Text → Text
line_from is_open line = line_by is_open (parts_of 44 line)

abbrev text_by : Bool → List Text → Text
text_by is_open lines = join_with_byte 10 (first_by (line_from is_open) text_line lines)

-- ---- where no cell is open

line_none : (cells : List Text) → line_by false cells ≡ fields (map text_cell cells)
line_none [] = refl
line_none (c ∷ cs) = refl

text_none : (lines : List Text) → text_by false lines ≡ join_with_byte 10 (map text_line lines)
text_none [] = refl
text_none (l ∷ ls) = ap (λ (y : Text). join_with_byte 10 (y ∷ map text_line ls)) (line_none (parts_of 44 l))

-- ---- one byte more

join_front : (separator : ℕ) (front x : Text) (xs : List Text) → join_with_byte separator ((front ++ x) ∷ xs) ≡ front ++ join_with_byte separator (x ∷ xs)
join_front separator front x [] = refl
join_front separator front x (y ∷ ys) = append_assoc front x (separator ∷ join_with_byte separator (y ∷ ys))

some_parts : (separator : ℕ) (text : Text) → 0 < length (parts_of separator text)
some_parts separator text = omega (arith, length-slice_split (λ (byte : ℕ). byte == separator) text)

cells_more : (is_open : Bool) (byte : ℕ) (cells : List Text) (is_comma : Bool) → 0 < length cells → (byte == 44) ≡ is_comma
    → line_by is_open (cond is_comma ([] ∷ cells) (onto_first byte cells)) ≡ with_marks is_open is_comma byte ++ line_by (not is_comma) cells
cells_more is_open byte [] is_comma some e = absurd (omega (arith, some))
cells_more true byte (c ∷ cs) true some e = ap (λ (b : ℕ). 34 ∷ 34 ∷ 34 ∷ b ∷ fields (text_cell c ∷ map text_cell cs)) (sym (eqb-true byte 44 e))
cells_more false byte (c ∷ cs) true some e = ap (λ (b : ℕ). b ∷ fields (text_cell c ∷ map text_cell cs)) (sym (eqb-true byte 44 e))
cells_more true byte (c ∷ cs) false some e = join_front 44 (byte ∷ []) (c ++ 34 ∷ 34 ∷ 34 ∷ []) (map text_cell cs)
cells_more false byte (c ∷ cs) false some e = join_front 44 (34 ∷ 61 ∷ 34 ∷ 34 ∷ byte ∷ []) (c ++ 34 ∷ 34 ∷ 34 ∷ []) (map text_cell cs)

line_more : (is_open : Bool) (byte : ℕ) (line : Text) (is_comma : Bool) → (byte == 44) ≡ is_comma → line_from is_open (byte ∷ line) ≡ with_marks is_open is_comma byte ++ line_from (not is_comma) line
line_more is_open byte line is_comma e =
    ap (λ (b : Bool). line_by is_open (cond b ([] ∷ parts_of 44 line) (onto_first byte (parts_of 44 line)))) e
    ∙ cells_more is_open byte (parts_of 44 line) is_comma (some_parts 44 line) e

-- a byte that ends no line
within_line : (is_open : Bool) (byte : ℕ) (l : Text) (ls : List Text) (is_comma : Bool) → (byte == 44) ≡ is_comma
    → text_by is_open ((byte ∷ l) ∷ ls) ≡ with_marks is_open is_comma byte ++ text_by (not is_comma) (l ∷ ls)
within_line is_open byte l ls is_comma e =
    ap (λ (y : Text). join_with_byte 10 (y ∷ map text_line ls)) (line_more is_open byte l is_comma e)
    ∙ join_front 10 (with_marks is_open is_comma byte) (line_from (not is_comma) l) (map text_line ls)

-- a byte that ends a line
line_ends : (is_open : Bool) (byte : ℕ) (l : Text) (ls : List Text) → (byte == 10) ≡ true → text_by is_open ([] ∷ l ∷ ls) ≡ with_marks is_open true byte ++ text_by false (l ∷ ls)
line_ends true byte l ls e =
    ap (λ (b : ℕ). 34 ∷ 34 ∷ 34 ∷ b ∷ join_with_byte 10 (text_line l ∷ map text_line ls)) (sym (eqb-true byte 10 e))
    ∙ ap (λ (y : Text). 34 ∷ 34 ∷ 34 ∷ byte ∷ y) (sym (text_none (l ∷ ls)))
line_ends false byte l ls e =
    ap (λ (b : ℕ). b ∷ join_with_byte 10 (text_line l ∷ map text_line ls)) (sym (eqb-true byte 10 e))
    ∙ ap (λ (y : Text). byte ∷ y) (sym (text_none (l ∷ ls)))

lines_more : (is_open : Bool) (byte : ℕ) (lines : List Text) (is_comma is_end : Bool) → 0 < length lines → (byte == 44) ≡ is_comma → (byte == 10) ≡ is_end
    → text_by is_open (cond is_end ([] ∷ lines) (onto_first byte lines)) ≡ with_marks is_open (is_comma || is_end) byte ++ text_by (not (is_comma || is_end)) lines
lines_more is_open byte [] is_comma is_end some e f = absurd (omega (arith, some))
lines_more is_open byte (l ∷ ls) true true some e f = line_ends is_open byte l ls f
lines_more is_open byte (l ∷ ls) false true some e f = line_ends is_open byte l ls f
lines_more is_open byte (l ∷ ls) true false some e f = within_line is_open byte l ls true e
lines_more is_open byte (l ∷ ls) false false some e f = within_line is_open byte l ls false e

-- ---- the whole text

marked_none : (is_open : Bool) → close_of is_open ≡ text_by is_open ([] ∷ [])
marked_none true = refl
marked_none false = refl

marked_from : (is_open : Bool) (text : Text) → marked is_open text ≡ text_by is_open (parts_of 10 text)
marked_from is_open [] = marked_none is_open
marked_from is_open (byte ∷ rest) =
    ap (λ (t : Text). with_marks is_open (is_edge byte) byte ++ t) (marked_from (not (is_edge byte)) rest)
    ∙ sym (lines_more is_open byte (parts_of 10 rest) (byte == 44) (byte == 10) (some_parts 10 rest) refl refl)

pub marked_text : (text : Text) → marked false text ≡ text_cells text
marked_text text = marked_from false text ∙ text_none (parts_of 10 text)

-- ---- what is written of it

pub appends_none : (a : Option (List ℕ)) → Appends a a []
appends_none None = tt
appends_none (Some xs) = sym (append-nil xs)

-- the bytes that are written, and those that are left, make the cells of the text
pub record HasMarked (text : Text) (old new : Option (List ℕ)) (is_open : Bool) (index : ℕ) : Type 0 where
  pub written : Text
  pub appended : Appends old new written
  pub left : written ++ marked is_open (drop index text) ≡ text_cells text

pub none_marked : (text : Text) (old : Option (List ℕ)) → HasMarked text old old false 0
none_marked text old = record { written = []; appended = appends_none old; left = marked_text text }

pub one_marked : (text : Text) (old now new : Option (List ℕ)) (is_open : Bool) (index : ℕ) → index < length text → HasMarked text old now is_open index
    → Appends now new (with_marks is_open (is_edge (get_or text index 0)) (get_or text index 0)) → HasMarked text old new (not (is_edge (get_or text index 0))) (index + 1)
one_marked text old now new is_open index low before one =
    let byte = get_or text index 0 in
    let marks = with_marks is_open (is_edge byte) byte in
    let next : suc index ≡ index + 1 = omega arith in
    let split : drop index text ≡ byte ∷ drop (index + 1) text = drop-cons text index 0 low ∙ ap (λ (k : ℕ). byte ∷ drop k text) next in
    record {
      written = before.written ++ marks;
      appended = appends_more old now new before.written marks before.appended one;
      left = append_assoc before.written marks (marked (not (is_edge byte)) (drop (index + 1) text))
          ∙ ap (λ (t : Text). before.written ++ t) (sym (ap (marked is_open) split)) ∙ before.left;
    }

drop_all : (index : ℕ) (text : Text) → length text ≤ index → drop index text ≡ []
drop_all zero [] far = refl
drop_all zero (x ∷ xs) far = absurd (omega (arith, far))
drop_all (suc index) [] far = refl
drop_all (suc index) (x ∷ xs) far = drop_all index xs (omega (arith, far))

-- behind the last byte the open cell has yet to end
pub all_marked : (text : Text) (old new : Option (List ℕ)) (is_open : Bool) (index : ℕ) → length text ≤ index → (done : HasMarked text old new is_open index)
    → done.written ++ close_of is_open ≡ text_cells text
all_marked text old new is_open index far done = ap (λ (rest : Text). done.written ++ marked is_open rest) (sym (drop_all index text far)) ∙ done.left
