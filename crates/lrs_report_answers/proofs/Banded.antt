-- Bands, pieces and classes, one after another.
use Rattle.std.proofs.Common.{◌≡◌, ℕ, zero, suc, ◌+◌, ◌*◌, ◌^◌, ◌<◌, ◌≤◌, ◌∙◌, Bool, true, false, ◌⊎◌, inl, inr, Option, Some, None, List, [], ◌∷◌, ◌++◌, length, take, drop, map, get_or, append_assoc, append-nil, refl, ap, sym, subst, arith}
use Rattle.std.specs.Prelude.{◌||◌, nat_lt, slice_get}
use Rattle.std.specs.List.{AllByRecursion}
use Rattle.std.proofs.Math.ListN.{drop_of_length-le}
use Rattle.std.proofs.lemmas.Bool.{cases_lt, lt-ltb}
use Rattle.std.proofs.lemmas.List.{take_more}
use Rattle.lrs_element.specs.Course.{course_of, is_too_long, piece_count, IsFewest}
use Rattle.lrs_element.specs.Pieces.{piece_len, IsFilled}
use Rattle.lrs_element.specs.declared.link.Ground.{Ground}
use Rattle.lrs_element.specs.declared.link.Piece.{Piece}
use Rattle.lrs_events.specs.declared.class.Asset.{Asset}
use Rattle.lrs_events.specs.declared.class.Class.{Class}
use Rattle.lrs_events.specs.declared.span.Span.{Span}
use Rattle.std.proofs.Math.Seq.{drop-cons}
use Rattle.lrs_report.specs.declared.diagrams.diagram.ClassBands.{ClassBands}
use Rattle.lrs_report.specs.declared.diagrams.diagram.DrawnPiece.{DrawnPiece}
use Rattle.lrs_report_answers.specs.DrawnRows.{AreBands, AreBandsOf, placed}

-- the bands of one class more, behind the others
bands_last : (assets : List Asset) (rows : List Span) (from to : ℕ) (cs : List Class) (c : Class) (bs : List ClassBands) (b : ClassBands)
    → AreBands assets rows from to cs bs → AreBandsOf assets rows from to c b → AreBands assets rows from to (cs ++ c ∷ []) (bs ++ b ∷ [])
bands_last assets rows from to [] c [] b all one = (one, tt)
bands_last assets rows from to [] c (d ∷ bs) b all one = absurd all
bands_last assets rows from to (e ∷ cs) c [] b all one = absurd all
bands_last assets rows from to (e ∷ cs) c (d ∷ bs) b all one = (all.0, bands_last assets rows from to cs c bs b all.1 one)

pub bands_more : (assets : List Asset) (rows : List Span) (from to i : ℕ) (cs : List Class) (c : Class) (bs : List ClassBands) (b : ClassBands) → i < length cs → c ≡ get_or cs i c
    → AreBands assets rows from to (take i cs) bs → AreBandsOf assets rows from to c b → AreBands assets rows from to (take (i + 1) cs) (bs ++ b ∷ [])
bands_more assets rows from to i cs c bs b low is all one =
    let next = take_more cs i c low ∙ ap (λ d. take i cs ++ d ∷ []) (sym is) in
    subst (λ (ds : List Class). AreBands assets rows from to ds (bs ++ b ∷ [])) (sym next) (bands_last assets rows from to (take i cs) c bs b all one)

-- ---- pieces

-- what is left of a list begins with what stands at its place
next_at : {A : Type 0} (i : ℕ) (xs : List A) (d : A) → i < length xs → drop i xs ≡ get_or xs i d ∷ drop (i + 1) xs
next_at i xs d low =
    let n : suc i ≡ i + 1 = omega arith in
    drop-cons xs i d low ∙ ap (λ k. get_or xs i d ∷ drop k xs) n

-- a piece, where it lies
abbrev pub placed_at : ℕ → Piece → DrawnPiece
placed_at from p = record { from = from; to = from + piece_len p; piece = p }

-- a piece more
pub placed_more : (i from : ℕ) (ps : List Piece) (d : Piece) (done whole : List DrawnPiece) → i < length ps → done ++ placed from (drop i ps) ≡ whole
    → (done ++ placed_at from (get_or ps i d) ∷ []) ++ placed (from + piece_len (get_or ps i d)) (drop (i + 1) ps) ≡ whole
placed_more i from ps d done whole low all =
    append_assoc done (placed_at from (get_or ps i d) ∷ []) (placed (from + piece_len (get_or ps i d)) (drop (i + 1) ps))
    ∙ ap (λ rest. done ++ placed from rest) (sym (next_at i ps d low)) ∙ all

pub placed_end : (i from : ℕ) (ps : List Piece) (done whole : List DrawnPiece) → length ps ≤ i → done ++ placed from (drop i ps) ≡ whole → done ≡ whole
placed_end i from ps done whole high all = sym (append-nil done) ∙ ap (λ rest. done ++ placed from rest) (sym (drop_of_length-le ps high)) ∙ all

-- the next piece has a millimetre, and so have those behind it
pub filled_next : (i : ℕ) (ps : List Piece) (d : Piece) → i < length ps → AllByRecursion IsFilled (drop i ps) → IsFilled (get_or ps i d) × AllByRecursion IsFilled (drop (i + 1) ps)
filled_next i ps d low all = subst (λ (qs : List Piece). AllByRecursion IsFilled qs) (next_at i ps d low) all

few_of : (n : ℕ) (b : Bool) → (nat_lt 1_000 n || b) ≡ false → n ≤ 1_000
few_of n b h = by (cases_lt 1_000 n)
  where
    by : (1_000 < n) ⊎ (n ≤ 1_000) → n ≤ 1_000
    by (inl l) = absurd (cc (ap (λ t. t || b) (lt-ltb 1_000 n l), h))
    by (inr l) = l

-- a course has at most 1,000 pieces
pub few_pieces : (course : List Ground) (ps : List Piece) → course_of ps ≡ course → IsFewest ps → is_too_long course ≡ false → length ps ≤ 1_000
few_pieces course ps same fewest limits =
    let count = fewest.fewest ∙ ap piece_count same in
    let few = few_of (piece_count course) _ limits in
    omega (arith, count, few)

-- ---- classes

-- what stands at a place of a list
pub there : {A : Type 0} (xs : List A) (i : ℕ) (x : A) → i < length xs → x ≡ get_or xs i x → slice_get xs i ≡ Some x
there [] i x low is = absurd (omega (arith, low))
there (y ∷ ys) zero x low is = ap Some (sym is)
there (y ∷ ys) (suc i) x low is = there ys i x (omega (arith, low)) is
