-- In how few pieces a course can be written, as pieces come to its end.
use Rattle.std.proofs.Common.{ℕ, zero, suc, ◌≡◌, ◌+◌, ◌-◌, ◌<◌, Bool, true, false, if◌then◌else◌, List, [], ◌∷◌, ◌++◌, length, get_or, take, set, sym, ◌∙◌, ap, refl, subst, arith}
use Rattle.std.specs.Prelude.{nat_eq, ◌&&◌}
use Rattle.std.proofs.lemmas.Bool.{and_from, and_parts, eq-eqb, eqb-true, false_from_ne_true}
use Rattle.std.specs.List.{AllByRecursion}
use Rattle.std.proofs.lemmas.List.{length-append, append_assoc, append-nil, length_push, get_or-append_right, length-set}
use Rattle.std.proofs.lemmas.List.Elements.{All-from_recursion, recursion_from_All, All-push, All-set}
use Rattle.std.proofs.lemmas.List.Concat.{flat_map-append}
use Rattle.lrs_measure.specs.Lists.{same_bool}
use Rattle.lrs_element.specs.declared.link.Piece.{Piece}
use Rattle.lrs_element.specs.declared.link.Ground.{Ground}
use Rattle.lrs_element.specs.Course.{expand, course_of, continues, piece_count, IsFewest}
use Rattle.lrs_element.specs.Pieces.{ground_of, piece_len, IsFilled, Continues}
use Rattle.lrs_element.proofs.Expanding.{length-expand, get_or-expand}

-- a new run begins at h after g: one piece more
abbrev pub breaks : Ground → Ground → ℕ
breaks g h = if continues g h then 0 else 1

piece_count-cons : (g h : Ground) (rest : List Ground) → piece_count (g ∷ h ∷ rest) ≡ piece_count (h ∷ rest) + breaks g h
piece_count-cons g h rest =
    elim (continues g h) as (λ v. (if v then piece_count (h ∷ rest) else piece_count (h ∷ rest) + 1) ≡ piece_count (h ∷ rest) + (if v then 0 else 1))
    [ true ↦ omega arith | false ↦ refl ]

-- the count of two courses, one after the other
pub piece_count-append : (xs ys : List Ground) (n : ℕ) (d : Ground) → length xs ≡ n + 1 → 0 < length ys
    → piece_count (xs ++ ys) + 1 ≡ piece_count xs + breaks (get_or xs n d) (get_or ys 0 d) + piece_count ys
piece_count-append [] ys n d l h = absurd (omega arith)
piece_count-append (x ∷ xs) [] n d l h = absurd (omega arith)
piece_count-append (x ∷ []) (y ∷ ys) zero d l h = omega (arith, piece_count-cons x y ys)
piece_count-append (x ∷ []) (y ∷ ys) (suc n) d l h = absurd (omega arith)
piece_count-append (x ∷ z ∷ xs) (y ∷ ys) zero d l h = absurd (omega arith)
piece_count-append (x ∷ z ∷ xs) (y ∷ ys) (suc n) d l h =
    omega (arith, piece_count-cons x z (xs ++ y ∷ ys), piece_count-cons x z xs, piece_count-append (z ∷ xs) (y ∷ ys) n d (omega arith) h)

-- entries of which each continues the one before it are one piece
piece_count_run : (xs : List Ground) → 0 < length xs → ((k : ℕ) (d : Ground) → suc k < length xs → continues (get_or xs k d) (get_or xs (suc k) d) ≡ true) → piece_count xs ≡ 1
piece_count_run [] h run = absurd (omega arith)
piece_count_run (x ∷ []) h run = refl
piece_count_run (x ∷ y ∷ xs) h run =
    let c : continues x y ≡ true = run 0 x (omega arith) in
    piece_count-cons x y xs ∙ ap (λ (b : Bool). piece_count (y ∷ xs) + (if b then 0 else 1)) c
    ∙ omega (arith, piece_count_run (y ∷ xs) (omega arith) (λ k d lt. run (suc k) d (omega arith)))

same_bool-refl : (b : Bool) → same_bool b b ≡ true
same_bool-refl true = refl
same_bool-refl false = refl

same_bool-true : (b c : Bool) → same_bool b c ≡ true → b ≡ c
same_bool-true true c h = sym h
same_bool-true false true h = h
same_bool-true false false h = refl

step_continues : (f : Bool) (a b k : ℕ) → suc k < b - a
    → (if f then nat_eq (if f then a + suc k else b - 1 - suc k) ((if f then a + k else b - 1 - k) + 1) else nat_eq (if f then a + k else b - 1 - k) ((if f then a + suc k else b - 1 - suc k) + 1)) ≡ true
step_continues true a b k h = eq-eqb _ _ (omega arith)
step_continues false a b k h = eq-eqb _ _ (omega arith)

ground_continues : (p : Piece) (k : ℕ) → suc k < piece_len p → continues (ground_of p k) (ground_of p (suc k)) ≡ true
ground_continues p k h = and_from _ _ (and_from _ _ (eq-eqb p.link p.link refl) (same_bool-refl p.forward)) (step_continues p.forward p.from p.to k h)

pub piece_count-expand : (p : Piece) → IsFilled p → piece_count (expand p) ≡ 1
piece_count-expand p f = piece_count_run (expand p) (let z : p.from < p.to = f in omega (arith, length-expand p))
    (λ k d lt.
    let i : suc k < piece_len p = omega (arith, length-expand p) in
    ap (λ (g : Ground). continues g (get_or (expand p) (suc k) d)) (get_or-expand p k d (omega arith)) ∙ ap (continues (ground_of p k)) (get_or-expand p (suc k) d i) ∙ ground_continues p k i)

-- where the last millimetre of one piece and the first of another continue each other, the pieces do
edges_meet : (f : Bool) (a b c e : ℕ) → a < b → c < e
    → (if f then nat_eq (if f then c + 0 else e - 1 - 0) ((if f then a + (b - a - 1) else b - 1 - (b - a - 1)) + 1) else nat_eq (if f then a + (b - a - 1) else b - 1 - (b - a - 1)) ((if f then c + 0 else e - 1 - 0) + 1)) ≡ true
    → (if f then b else a) ≡ (if f then c else e)
edges_meet true a b c e h k t = let x : c + 0 ≡ a + (b - a - 1) + 1 = eqb-true _ _ t in omega arith
edges_meet false a b c e h k t = let x : b - 1 - (b - a - 1) ≡ e - 1 - 0 + 1 = eqb-true _ _ t in omega arith

meet_edges : (f : Bool) (a b c e : ℕ) → a < b → c < e → (if f then b else a) ≡ (if f then c else e)
    → (if f then nat_eq (if f then c + 0 else e - 1 - 0) ((if f then a + (b - a - 1) else b - 1 - (b - a - 1)) + 1) else nat_eq (if f then a + (b - a - 1) else b - 1 - (b - a - 1)) ((if f then c + 0 else e - 1 - 0) + 1)) ≡ true
meet_edges true a b c e h k m = eq-eqb _ _ (let x : b ≡ c = m in omega arith)
meet_edges false a b c e h k m = eq-eqb _ _ (let x : a ≡ e = m in omega arith)

-- the seam between two pieces
abbrev seam : Piece → Piece → Bool
seam p q = continues (ground_of p (piece_len p - 1)) (ground_of q 0)

seam-true : (p q : Piece) → IsFilled p → IsFilled q → Continues p q → seam p q ≡ true
seam-true p q fp fq c =
    let s : p.forward ≡ q.forward = c.same_direction in
    let P : Bool → Type 0 = λ f. (if f then p.to else p.from) ≡ (if q.forward then q.from else q.to) → (nat_eq p.link q.link && same_bool f q.forward && (if f then nat_eq (if q.forward then q.from + 0 else q.to - 1 - 0) ((if f then p.from + (p.to - p.from - 1) else p.to - 1 - (p.to - p.from - 1)) + 1) else nat_eq (if f then p.from + (p.to - p.from - 1) else p.to - 1 - (p.to - p.from - 1)) ((if q.forward then q.from + 0 else q.to - 1 - 0) + 1))) ≡ true in
    let at : P q.forward = λ m. and_from _ _ (and_from _ _ (eq-eqb _ _ c.same_link) (same_bool-refl q.forward)) (meet_edges q.forward p.from p.to q.from q.to fp fq m) in
    subst P (sym s) at c.meets

seam_continues : (p q : Piece) → IsFilled p → IsFilled q → seam p q ≡ true → Continues p q
seam_continues p q fp fq t =
    let parts = and_parts _ _ t in
    let heads = and_parts _ _ parts.0 in
    let s : p.forward ≡ q.forward = same_bool-true p.forward q.forward heads.1 in
    let P : Bool → Type 0 = λ f. (if f then nat_eq (if q.forward then q.from + 0 else q.to - 1 - 0) ((if f then p.from + (p.to - p.from - 1) else p.to - 1 - (p.to - p.from - 1)) + 1) else nat_eq (if f then p.from + (p.to - p.from - 1) else p.to - 1 - (p.to - p.from - 1)) ((if q.forward then q.from + 0 else q.to - 1 - 0) + 1)) ≡ true → (if f then p.to else p.from) ≡ (if q.forward then q.from else q.to) in
    let at : P q.forward = λ m. edges_meet q.forward p.from p.to q.from q.to fp fq m in
    record { same_link = eqb-true p.link q.link heads.0; same_direction = s; meets = subst P (sym s) at parts.1 }

-- the count of two pieces, one after the other
abbrev one_more : Piece → Piece → ℕ
one_more p q = if seam p q then 0 else 1

-- one more piece q behind a course that ends in the piece p
piece_count_push : (zs : List Ground) (p q : Piece) → IsFilled p → IsFilled q → piece_count ((zs ++ expand p) ++ expand q) ≡ piece_count (zs ++ expand p) + one_more p q
piece_count_push zs p q fp fq =
    let zp : p.from < p.to = fp in
    let zq : q.from < q.to = fq in
    let d : Ground = ground_of q 0 in
    let n : ℕ = length zs + (piece_len p - 1) in
    let last : get_or (zs ++ expand p) n d ≡ ground_of p (piece_len p - 1) =
    get_or-append_right zs (expand p) (length zs) n d refl (omega arith)
    ∙ ap (λ (i : ℕ). get_or (expand p) i d) (let e : n - length zs ≡ piece_len p - 1 = omega arith in e)
    ∙ get_or-expand p (piece_len p - 1) d (omega arith) in
    let first : get_or (expand q) 0 d ≡ ground_of q 0 = get_or-expand q 0 d (omega arith) in
    let both : breaks (get_or (zs ++ expand p) n d) (get_or (expand q) 0 d) ≡ one_more p q =
    ap (λ (g : Ground). breaks g (get_or (expand q) 0 d)) last ∙ ap (breaks (ground_of p (piece_len p - 1))) first in
    let all = piece_count-append (zs ++ expand p) (expand q) n d (length-append zs (expand p) ∙ omega (arith, length-expand p)) (omega (arith, length-expand q)) in
    omega (arith, all, both, piece_count-expand q fq)

-- ---- lists of pieces

pub course_of-push : (ps : List Piece) (p : Piece) → course_of (ps ++ p ∷ []) ≡ course_of ps ++ expand p
course_of-push ps p = flat_map-append expand ps (p ∷ []) ∙ ap (λ (xs : List Ground). course_of ps ++ xs) (append-nil (expand p))

-- the course up to the last piece, and that
course_of_last : (ps : List Piece) (n : ℕ) (d : Piece) → length ps ≡ n + 1 → course_of ps ≡ course_of (take n ps) ++ expand (get_or ps n d)
course_of_last [] n d l = absurd (omega arith)
course_of_last (x ∷ []) zero d l = append-nil (expand x)
course_of_last (x ∷ []) (suc n) d l = absurd (omega arith)
course_of_last (x ∷ y ∷ ps) zero d l = absurd (omega arith)
course_of_last (x ∷ y ∷ ps) (suc n) d l =
    ap (λ (xs : List Ground). expand x ++ xs) (course_of_last (y ∷ ps) n d (omega arith)) ∙ sym (append_assoc (expand x) (course_of (take n (y ∷ ps))) (expand (get_or (y ∷ ps) n d)))

-- the last piece made longer
course_of-set_last : (ps : List Piece) (n : ℕ) (d p q : Piece) → length ps ≡ n + 1 → expand q ≡ expand (get_or ps n d) ++ expand p → course_of (set ps n q) ≡ course_of ps ++ expand p
course_of-set_last [] n d p q l e = absurd (omega arith)
course_of-set_last (x ∷ []) zero d p q l e = append-nil (expand q) ∙ e ∙ ap (λ (xs : List Ground). xs ++ expand p) (sym (append-nil (expand x)))
course_of-set_last (x ∷ []) (suc n) d p q l e = absurd (omega arith)
course_of-set_last (x ∷ y ∷ ps) zero d p q l e = absurd (omega arith)
course_of-set_last (x ∷ y ∷ ps) (suc n) d p q l e =
    ap (λ (xs : List Ground). expand x ++ xs) (course_of-set_last (y ∷ ps) n d p q (omega arith) e) ∙ sym (append_assoc (expand x) (course_of (y ∷ ps)) (expand p))

-- one more piece behind pieces, by their last one
count_push : (ps : List Piece) (n : ℕ) (d q : Piece) → length ps ≡ n + 1 → AllByRecursion IsFilled ps → IsFilled q → piece_count (course_of ps ++ expand q) ≡ piece_count (course_of ps) + one_more (get_or ps n d) q
count_push ps n d q l f fq =
    let e = course_of_last ps n d l in
    rw e (piece_count_push (course_of (take n ps)) (get_or ps n d) q (All-from_recursion IsFilled ps f n d (omega arith)) fq)

one_more-none : (p q : Piece) → IsFilled p → IsFilled q → Continues p q → one_more p q ≡ 0
one_more-none p q fp fq c = ap (λ (b : Bool). if b then 0 else 1) (seam-true p q fp fq c)

one_more-one : (p q : Piece) → IsFilled p → IsFilled q → (Continues p q → ⊥) → one_more p q ≡ 1
one_more-one p q fp fq c = ap (λ (b : Bool). if b then 0 else 1) (false_from_ne_true (seam p q) (λ t. c (seam_continues p q fp fq t)))

pub IsFewest-nil : IsFewest []
IsFewest-nil = record { filled = recursion_from_All IsFilled [] (λ k d lt. absurd (omega arith)); fewest = refl }

IsFewest_pushed : (ps : List Piece) (p : Piece) → IsFewest ps → IsFilled p → piece_count (course_of ps ++ expand p) ≡ piece_count (course_of ps) + 1 → IsFewest (ps ++ p ∷ [])
IsFewest_pushed ps p f fp e = record {
  filled = recursion_from_All IsFilled (ps ++ p ∷ []) (All-push IsFilled ps p (All-from_recursion IsFilled ps f.filled) fp);
  fewest = length_push ps p ∙ ap (λ (n : ℕ). n + 1) f.fewest ∙ sym e ∙ ap piece_count (sym (course_of-push ps p));
}

pub IsFewest-push : (ps : List Piece) (p : Piece) → IsFewest ps → IsFilled p → ((k : ℕ) (d : Piece) → k + 1 ≡ length ps → Continues (get_or ps k d) p → ⊥) → IsFewest (ps ++ p ∷ [])
IsFewest-push [] p f fp apart = IsFewest_pushed [] p f fp (piece_count-expand p fp)
IsFewest-push (x ∷ ps) p f fp apart =
    let n : ℕ = length ps in
    let l : length (x ∷ ps) ≡ n + 1 = omega arith in
    IsFewest_pushed (x ∷ ps) p f fp (count_push (x ∷ ps) n p p l f.filled fp
    ∙ ap (λ (k : ℕ). piece_count (course_of (x ∷ ps)) + k) (one_more-one (get_or (x ∷ ps) n p) p (All-from_recursion IsFilled (x ∷ ps) f.filled n p (omega arith)) fp (apart n p (sym l))))

-- the last piece x, which was read at n, made longer by p
pub course_of-set_read : (ps : List Piece) (n : ℕ) (x p q : Piece) → length ps ≡ n + 1 → x ≡ get_or ps n x → expand q ≡ expand x ++ expand p → course_of (set ps n q) ≡ course_of ps ++ expand p
course_of-set_read ps n x p q l r e = course_of-set_last ps n x p q l (e ∙ ap (λ (w : Piece). expand w ++ expand p) r)

pub IsFewest-set_read : (ps : List Piece) (n : ℕ) (x p q : Piece) → length ps ≡ n + 1 → x ≡ get_or ps n x → IsFewest ps → IsFilled p → IsFilled q → Continues (get_or ps n p) p → expand q ≡ expand x ++ expand p → IsFewest (set ps n q)
IsFewest-set_read ps n x p q l r f fp fq c e = record {
  filled = recursion_from_All IsFilled (set ps n q) (All-set IsFilled ps n q fq (All-from_recursion IsFilled ps f.filled));
  fewest = length-set ps n q ∙ f.fewest ∙ omega arith
      ∙ sym (count_push ps n p p l f.filled fp ∙ ap (λ (k : ℕ). piece_count (course_of ps) + k) (one_more-none (get_or ps n p) p (All-from_recursion IsFilled ps f.filled n p (omega arith)) fp c))
      ∙ ap piece_count (sym (course_of-set_read ps n x p q l r e));
}
