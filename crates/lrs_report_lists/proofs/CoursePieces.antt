-- The pieces of a course: they make it, and they are its fewest.
use Rattle.std.proofs.Common.{◌≡◌, ℕ, ◌+◌, ◌-◌, ◌<◌, Bool, true, false, if◌then◌else◌, List, [], ◌∷◌, ◌++◌, length, get_or, map, refl, sym, ap, subst, ◌∙◌, arith, length-append}
use Rattle.std.specs.Prelude.{nat_eq, reverse}
use Rattle.std.specs.List.{range_with_len}
use Rattle.std.proofs.lemmas.Bool.{and_parts, eqb-true}
use Rattle.lrs_measure.specs.Lists.{same_bool}
use Rattle.lrs_element.specs.declared.link.Ground.{Ground}
use Rattle.lrs_element.specs.declared.link.Piece.{Piece}
use Rattle.lrs_element.specs.Course.{IsFewest, continues, course_of, expand, piece_count}
use Rattle.lrs_element.specs.Pieces.{Continues, IsFilled, ground_of}
use Rattle.lrs_element.proofs.Counting.{IsFewest-nil, breaks, piece_count-append}
use Rattle.lrs_element.proofs.Expanding.{joined_false, joined_true, length-expand}
use Rattle.lrs_report_lists.proofs.FewestPieces.{fewest-same, in-first}
use Rattle.lrs_report_lists.specs.CoursePieces.{led_by, lengthened, piece_at, pieces_of}

-- the millimetre m of a link
abbrev at_mm : ℕ → ℕ → Bool → Ground
at_mm l m f = record { link = l; mm = m; forward = f }

alike : (b c : Bool) → same_bool b c ≡ true → b ≡ c
alike true c h = sym h
alike false true h = h
alike false false h = refl

-- a millimetre as a piece runs over it alone
alone : (l m : ℕ) (f : Bool) → expand (piece_at (at_mm l m f)) ≡ at_mm l m f ∷ []
alone l m true = let e : m + 1 - m ≡ 1 = omega arith in ap (λ (n : ℕ). map (λ k. at_mm l k true) (range_with_len m n)) e
alone l m false = let e : m + 1 - m ≡ 1 = omega arith in ap (λ (n : ℕ). map (λ k. at_mm l k false) (reverse (range_with_len m n))) e

edges : (b : Bool) (m c e : ℕ) → c < e
    → (if b then nat_eq (if b then c + 0 else e - 1 - 0) (m + 1) else nat_eq m ((if b then c + 0 else e - 1 - 0) + 1)) ≡ true
    → (if b then m + 1 else m) ≡ (if b then c else e)
edges true m c e h t = let x : c + 0 ≡ m + 1 = eqb-true _ _ t in omega arith
edges false m c e h t = let x : m ≡ e - 1 - 0 + 1 = eqb-true _ _ t in omega arith

-- a piece goes on from the millimetre from which its first one does
goes-on : (l m : ℕ) (f : Bool) (p : Piece) → IsFilled p → continues (at_mm l m f) (ground_of p 0) ≡ true → Continues (piece_at (at_mm l m f)) p
goes-on l m f p filled t =
    let parts = and_parts _ _ t in
    let heads = and_parts _ _ parts.0 in
    let s : f ≡ p.forward = alike f p.forward heads.1 in
    let P : Bool → Type 0 = λ b. (if b then nat_eq (if p.forward then p.from + 0 else p.to - 1 - 0) (m + 1) else nat_eq m ((if p.forward then p.from + 0 else p.to - 1 - 0) + 1)) ≡ true → (if b then m + 1 else m) ≡ (if p.forward then p.from else p.to) in
    let at : P p.forward = edges p.forward m p.from p.to filled in
    record { same_link = eqb-true l p.link heads.0; same_direction = s; meets = subst P (sym s) at parts.1 }

-- the lengthened piece runs over the millimetre and then the piece
lengthened-expands : (l m : ℕ) (f : Bool) (p : Piece) → IsFilled p → continues (at_mm l m f) (ground_of p 0) ≡ true → expand (lengthened (at_mm l m f) p) ≡ at_mm l m f ∷ expand p
lengthened-expands l m true p filled t =
    joined_true (piece_at (at_mm l m true)) p refl (goes-on l m true p filled t) (omega arith) filled
    ∙ ap (λ (xs : List Ground). xs ++ expand p) (alone l m true)
lengthened-expands l m false p filled t =
    joined_false (piece_at (at_mm l m false)) p refl (goes-on l m false p filled t) (omega arith) filled
    ∙ ap (λ (xs : List Ground). xs ++ expand p) (alone l m false)

-- a piece that expands to some millimetre has one
has-some : (p : Piece) (g : Ground) (rest : List Ground) → expand p ≡ g ∷ rest → IsFilled p
has-some p g rest e =
    let n : length (expand p) ≡ length (g ∷ rest) = ap (λ (xs : List Ground). length xs) e in
    omega (arith, n, length-expand p)

-- in how few pieces a course can be written that has one millimetre more in front
counted : (g : Ground) (p : Piece) (ps : List Piece) → IsFilled p → piece_count (g ∷ course_of (p ∷ ps)) ≡ breaks g (ground_of p 0) + piece_count (course_of (p ∷ ps))
counted g p ps filled =
    let z : p.from < p.to = filled in
    let l = length-expand p in
    let whole = length-append (expand p) (course_of ps) in
    let first : get_or (course_of (p ∷ ps)) 0 g ≡ ground_of p 0 = in-first p ps 0 g (omega (arith, z)) in
    let all : piece_count (g ∷ course_of (p ∷ ps)) + 1 ≡ 1 + breaks g (get_or (course_of (p ∷ ps)) 0 g) + piece_count (course_of (p ∷ ps)) =
    piece_count-append (g ∷ []) (course_of (p ∷ ps)) 0 g refl (omega (arith, z, l, whole)) in
    let same : breaks g (get_or (course_of (p ∷ ps)) 0 g) ≡ breaks g (ground_of p 0) = ap (λ (h : Ground). breaks g h) first in
    omega (arith, all, same)

-- The pieces run over a millimetre and then over what others do, and are the fewest that do.
record Leads (g : Ground) (ps qs : List Piece) : Type 0 where
  course : course_of qs ≡ g ∷ course_of ps
  fewest : IsFewest qs

led-by : (g : Ground) (p : Piece) (ps : List Piece) → IsFewest (p ∷ ps) → (b : Bool) → continues g (ground_of p 0) ≡ b → Leads g (p ∷ ps) (if b then lengthened g p ∷ ps else piece_at g ∷ p ∷ ps)
led-by g p ps h true t =
    let whole = lengthened-expands g.link g.mm g.forward p h.filled.0 t in
    let course : course_of (lengthened g p ∷ ps) ≡ g ∷ course_of (p ∷ ps) = ap (λ (xs : List Ground). xs ++ course_of ps) whole in
    let none : breaks g (ground_of p 0) ≡ 0 = ap (λ (b : Bool). if b then 0 else 1) t in
    let count = counted g p ps h.filled.0 in
    let some = ap (λ (xs : List Ground). piece_count xs) course in
    record {
      course = course;
      fewest = record { filled = (has-some (lengthened g p) g (expand p) whole, h.filled.1); fewest = omega (arith, some, count, none, h.fewest) };
    }
led-by g p ps h false t =
    let course : course_of (piece_at g ∷ p ∷ ps) ≡ g ∷ course_of (p ∷ ps) = ap (λ (xs : List Ground). xs ++ course_of (p ∷ ps)) (alone g.link g.mm g.forward) in
    let one : breaks g (ground_of p 0) ≡ 1 = ap (λ (b : Bool). if b then 0 else 1) t in
    let count = counted g p ps h.filled.0 in
    let some = ap (λ (xs : List Ground). piece_count xs) course in
    record {
      course = course;
      fewest = record { filled = (omega arith, h.filled); fewest = omega (arith, some, count, one, h.fewest) };
    }

led : (g : Ground) (ps : List Piece) → IsFewest ps → Leads g ps (led_by g ps)
led g [] h =
    let course : course_of (piece_at g ∷ []) ≡ g ∷ [] = ap (λ (xs : List Ground). xs ++ []) (alone g.link g.mm g.forward) in
    record {
      course = course;
      fewest = record { filled = (omega arith, tt); fewest = sym (ap (λ (xs : List Ground). piece_count xs) course) };
    }
led g (p ∷ ps) h = led-by g p ps h (continues g (ground_of p 0)) refl

-- The pieces of a course make it, and there are no fewer.
pub pieces_make : (course : List Ground) → (course_of (pieces_of course) ≡ course) × IsFewest (pieces_of course)
pieces_make [] = (refl, IsFewest-nil)
pieces_make (g ∷ rest) =
    let r = pieces_make rest in
    let l = led g (pieces_of rest) r.1 in
    (l.course ∙ ap (λ (xs : List Ground). g ∷ xs) r.0, l.fewest)

-- so these are they
pub are-pieces : (ps : List Piece) (course : List Ground) → course_of ps ≡ course → IsFewest ps → ps ≡ pieces_of course
are-pieces ps course e h =
    let made = pieces_make course in
    fewest-same ps (pieces_of course) h made.1 (e ∙ sym made.0)
