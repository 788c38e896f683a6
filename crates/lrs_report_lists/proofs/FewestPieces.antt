-- A course has one list of fewest pieces.
use Rattle.std.proofs.Common.{◌≡◌, ℕ, ◌+◌, ◌-◌, ◌<◌, Bool, true, false, cond, List, [], ◌∷◌, ◌++◌, length, get_or, refl, sym, ap, ◌∙◌, arith, eq-eqb, length-append, ◌↔◌}
use Rattle.std.specs.List.{AllByRecursion}
use Rattle.std.proofs.lemmas.Bool.{and_from, false≢true}
use Rattle.std.proofs.lemmas.List.{append_cancel_left, get_or_append_left, get_or-append_right}
use native.Mathlib.Decide.{dec_lt}
use Rattle.lrs_element.specs.declared.link.Ground.{Ground}
use Rattle.lrs_element.specs.declared.link.Piece.{Piece}
use Rattle.lrs_element.specs.Course.{IsFewest, continues, course_of, expand}
use Rattle.lrs_element.specs.Pieces.{IsFilled, ground_of, piece_len}
use Rattle.lrs_element.proofs.Expanding.{get_or-expand, length-expand}
use Rattle.lrs_events.proofs.Ledger.Whole.{Unjoined, fewest_unjoined}

-- a millimetre of the first piece
pub in-first : (p : Piece) (ps : List Piece) (i : ℕ) (d : Ground) → i < piece_len p → get_or (course_of (p ∷ ps)) i d ≡ ground_of p i
in-first p ps i d within =
    let size = length-expand p in
    get_or_append_left (expand p) (course_of ps) d i (omega (arith, size, within)) ∙ get_or-expand p i d within

-- millimetres of one piece go on from each other
step-on : (f : Bool) (l a b i : ℕ) → i + 1 < b - a → continues (record { link = l; mm = cond f (a + i) (b - 1 - i); forward = f }) (record { link = l; mm = cond f (a + (i + 1)) (b - 1 - (i + 1)); forward = f }) ≡ true
step-on true l a b i h = and_from _ _ (and_from _ _ (eq-eqb l l refl) refl) (eq-eqb (a + (i + 1)) (a + i + 1) (omega arith))
step-on false l a b i h = and_from _ _ (and_from _ _ (eq-eqb l l refl) refl) (eq-eqb (b - 1 - i) (b - 1 - (i + 1) + 1) (omega (arith, h)))

goes-on : (p : Piece) (i : ℕ) → i + 1 < piece_len p → continues (ground_of p i) (ground_of p (i + 1)) ≡ true
goes-on p i h = step-on p.forward p.link p.from p.to i h

-- the first piece of one list is no shorter than that of another
not-longer : (p q : Piece) (ps qs : List Piece) → IsFilled p → AllByRecursion IsFilled ps → Unjoined (p ∷ ps) → course_of (p ∷ ps) ≡ course_of (q ∷ qs) → piece_len p < piece_len q → ⊥
not-longer p q [] qs filled others apart same longer =
    let a = length-append (expand p) [] in
    let b = length-append (expand q) (course_of qs) in
    let whole = ap (λ (xs : List Ground). length xs) same in
    omega (arith, a, b, whole, length-expand p, length-expand q, longer)
not-longer p q (r ∷ ps) qs filled others apart same longer =
    let n = piece_len p in
    let some : p.from < p.to = filled in
    let next : r.from < r.to = others.0 in
    let d = ground_of r 0 in
    let start : n - n ≡ 0 = omega arith in
    let behind : get_or (course_of (p ∷ r ∷ ps)) n d ≡ ground_of r 0 =
    get_or-append_right (expand p) (course_of (r ∷ ps)) n n d (length-expand p) (omega arith) ∙ ap (λ (k : ℕ). get_or (course_of (r ∷ ps)) k d) start ∙ in-first r ps 0 d (omega (arith, next)) in
    let at : ground_of r 0 ≡ ground_of q n = sym behind ∙ ap (λ (xs : List Ground). get_or xs n d) same ∙ in-first q qs n d longer in
    let before : ground_of p (n - 1) ≡ ground_of q (n - 1) =
    sym (in-first p (r ∷ ps) (n - 1) d (omega (arith, some))) ∙ ap (λ (xs : List Ground). get_or xs (n - 1) d) same ∙ in-first q qs (n - 1) d (omega (arith, longer)) in
    let back : n - 1 + 1 ≡ n = omega (arith, some) in
    let on : continues (ground_of q (n - 1)) (ground_of q n) ≡ true = ap (λ (k : ℕ). continues (ground_of q (n - 1)) (ground_of q k)) (sym back) ∙ goes-on q (n - 1) (omega (arith, some, longer)) in
    let joined : continues (ground_of p (n - 1)) (ground_of r 0) ≡ true = (λ i. continues (before i) (at i)) ∙ on in
    false≢true (sym apart.0 ∙ joined)

-- pieces of one length and one first millimetre are one
ends-alike : (f g : Bool) (a b c d : ℕ) → f ≡ g → a < b → c < d → b - a ≡ d - c → cond f (a + 0) (b - 1 - 0) ≡ cond g (c + 0) (d - 1 - 0) → (a ≡ c) × (b ≡ d)
ends-alike true true a b c d e h k l m = (omega (arith, m), omega (arith, h, k, l, m))
ends-alike false false a b c d e h k l m = (omega (arith, h, k, l, m), omega (arith, h, k, l, m))
ends-alike true false a b c d e h k l m = absurd (false≢true (sym e))
ends-alike false true a b c d e h k l m = absurd (false≢true e)

one-piece : (p q : Piece) → IsFilled p → IsFilled q → piece_len p ≡ piece_len q → ground_of p 0 ≡ ground_of q 0 → p ≡ q
one-piece p q fp fq size first =
    let link : p.link ≡ q.link = ap (λ (g : Ground). g.link) first in
    let direction : p.forward ≡ q.forward = ap (λ (g : Ground). g.forward) first in
    let ends = ends-alike p.forward q.forward p.from p.to q.from q.to direction fp fq size (ap (λ (g : Ground). g.mm) first) in
    λ i. record { link = link i; from = ends.0 i; to = ends.1 i; forward = direction i }

tail-unjoined : (p : Piece) (ps : List Piece) → Unjoined (p ∷ ps) → Unjoined ps
tail-unjoined p [] h = tt
tail-unjoined p (q ∷ ps) h = h.1

one-list : (ps qs : List Piece) → AllByRecursion IsFilled ps → AllByRecursion IsFilled qs → Unjoined ps → Unjoined qs → course_of ps ≡ course_of qs → ps ≡ qs
one-list [] [] f g u v same = refl
one-list [] (q ∷ qs) f g u v same =
    let some : q.from < q.to = g.0 in
    let b = length-append (expand q) (course_of qs) in
    let whole = ap (λ (xs : List Ground). length xs) same in
    absurd (omega (arith, some, b, whole, length-expand q))
one-list (p ∷ ps) [] f g u v same =
    let some : p.from < p.to = f.0 in
    let b = length-append (expand p) (course_of ps) in
    let whole = ap (λ (xs : List Ground). length xs) same in
    absurd (omega (arith, some, b, whole, length-expand p))
one-list (p ∷ ps) (q ∷ qs) f g u v same =
    let some : p.from < p.to = f.0 in
    let more : q.from < q.to = g.0 in
    let size = one-size p q ps qs f g u v same in
    let first : ground_of p 0 ≡ ground_of q 0 = sym (in-first p ps 0 (ground_of p 0) (omega (arith, some))) ∙ ap (λ (xs : List Ground). get_or xs 0 (ground_of p 0)) same ∙ in-first q qs 0 (ground_of p 0) (omega (arith, more)) in
    let piece = one-piece p q f.0 g.0 size first in
    let behind : course_of ps ≡ course_of qs = append_cancel_left (expand p) (course_of ps) (course_of qs) (same ∙ ap (λ (r : Piece). expand r ++ course_of qs) (sym piece)) in
    let others = one-list ps qs f.1 g.1 (tail-unjoined p ps u) (tail-unjoined q qs v) behind in
    λ i. piece i ∷ others i
  where
    one-size : (p q : Piece) (ps qs : List Piece) → AllByRecursion IsFilled (p ∷ ps) → AllByRecursion IsFilled (q ∷ qs) → Unjoined (p ∷ ps) → Unjoined (q ∷ qs) → course_of (p ∷ ps) ≡ course_of (q ∷ qs) → piece_len p ≡ piece_len q
    one-size p q ps qs f g u v same = elim (dec_lt (piece_len p) (piece_len q)) [
      | yes below ↦ absurd (not-longer p q ps qs f.0 f.1 u same below)
      | no above ↦ elim (dec_lt (piece_len q) (piece_len p)) [
        | yes below ↦ absurd (not-longer q p qs ps g.0 g.1 v (sym same) below)
        | no over ↦ omega arith
      ]
    ]

-- a course has one list of fewest pieces
pub fewest-same : (ps qs : List Piece) → IsFewest ps → IsFewest qs → course_of ps ≡ course_of qs → ps ≡ qs
fewest-same ps qs h g same = one-list ps qs h.filled g.filled (fewest_unjoined ps h) (fewest_unjoined qs g) same

-- so courses are the same where their fewest pieces are
pub courses-same : (xs ys : List Ground) (ps qs : List Piece) (P : Type 0) → course_of ps ≡ xs → course_of qs ≡ ys → IsFewest ps → IsFewest qs → P ↔ (ps ≡ qs) → P ↔ (xs ≡ ys)
courses-same xs ys ps qs P a b h g same = (λ p. sym a ∙ ap (λ (t : List Piece). course_of t) (same.0 p) ∙ b, λ e. same.1 (fewest-same ps qs h g (a ∙ e ∙ sym b)))
