-- Neighbouring millimetres of a run are in one part, where the course goes straight on.
use Rattle.std.proofs.Common.{◌≡◌, ℕ, zero, suc, ◌+◌, ◌-◌, ◌<◌, ◌≤◌, min, Bool, true, false, cond, ◌⊎◌, inl, inr, List, [], ◌∷◌, ◌++◌, length, get_or, refl, sym, ap, subst, ◌∙◌, arith, length-append}
use Rattle.std.specs.Prelude.{◌&&◌}
use Rattle.std.specs.List.{list_any, AllByRecursion}
use Rattle.std.proofs.lemmas.Bool.{both_ways, and_from, or_left, or_right, cases_lt, eq-eqb, le-leb, lt-ltb, false_from_ne_true}
use Rattle.std.proofs.lemmas.List.{get_or_append_left, get_or-append_right}
use Rattle.std.proofs.lemmas.List.Folds.{list_any-append}
use Rattle.lrs_element.specs.declared.link.Piece.{Piece}
use Rattle.lrs_element.specs.declared.link.Ground.{Ground}
use Rattle.lrs_element.specs.Course.{expand, course_of, continues, piece_count, IsFewest}
use Rattle.lrs_element.specs.Pieces.{piece_len, ground_of, IsFilled}
use Rattle.lrs_element.proofs.Counting.{breaks, piece_count-append, piece_count-expand}
use Rattle.lrs_element.proofs.Expanding.{length-expand, get_or-expand}
use Rattle.lrs_events.specs.declared.part.Part.{Part}
use Rattle.lrs_events.specs.declared.side.LinkSide.{LinkSide}
use Rattle.lrs_events.specs.declared.side.LinkSide.TheVariants.{Left, Right}
use Rattle.lrs_events.specs.Places.{beside, along_link, same_link_side}
use Rattle.lrs_events.specs.Parts.{has_for}
use Rattle.lrs_events.specs.declared.ledgers.run.Run.{Run}
use Rattle.lrs_events.specs.Ledger.Cuts.{part_between, parts_in, parts_from}
use Rattle.lrs_events.specs.Ledger.Ledger.{one_has}

-- no piece goes on where the one before it ends
abbrev pub Unjoined : List Piece → Type 0
Unjoined [] = Unit {0}
Unjoined (p ∷ []) = Unit {0}
Unjoined (p ∷ q ∷ ps) = (continues (ground_of p (piece_len p - 1)) (ground_of q 0) ≡ false) × Unjoined (q ∷ ps)

filled_first : (p : Piece) (ps : List Piece) (d : Ground) → IsFilled p → (0 < length (course_of (p ∷ ps))) × (get_or (course_of (p ∷ ps)) 0 d ≡ ground_of p 0)
filled_first p ps d f =
    let g : p.from < p.to = f in
    let l = length-expand p in
    let m = length-append (expand p) (course_of ps) in
    (omega (arith, g, l, m), get_or_append_left (expand p) (course_of ps) d 0 (omega (arith, g, l)) ∙ get_or-expand p 0 d (omega (arith, g)))

-- the count of pieces that end and begin so
count_more : (p q : Piece) (ps : List Piece) → IsFilled p → IsFilled q → piece_count (course_of (p ∷ q ∷ ps)) ≡ breaks (ground_of p (piece_len p - 1)) (ground_of q 0) + piece_count (course_of (q ∷ ps))
count_more p q ps fp fq =
    let g : p.from < p.to = fp in
    let l = length-expand p in
    let d = ground_of q 0 in
    let first = filled_first q ps d fq in
    let one = piece_count-expand p fp in
    let last : get_or (expand p) (piece_len p - 1) d ≡ ground_of p (piece_len p - 1) = get_or-expand p (piece_len p - 1) d (omega (arith, g)) in
    let sum = piece_count-append (expand p) (course_of (q ∷ ps)) (piece_len p - 1) d (omega (arith, g, l)) first.0 in
    let seam : breaks (get_or (expand p) (piece_len p - 1) d) (get_or (course_of (q ∷ ps)) 0 d) ≡ breaks (ground_of p (piece_len p - 1)) (ground_of q 0) = λ i. breaks (last i) (first.1 i) in
    omega (arith, sum, one, seam)

one_break : (g h : Ground) → breaks g h ≤ 1
one_break g h = by (continues g h)
  where
    by : (b : Bool) → (let n : ℕ = cond b 0 1 in n) ≤ 1
    by true = omega arith
    by false = omega arith

no_more : (ps : List Piece) → AllByRecursion IsFilled ps → piece_count (course_of ps) ≤ length ps
no_more [] f = omega arith
no_more (p ∷ []) f = let one = piece_count-expand p f.0 in let e = ap piece_count (Rattle.std.proofs.Common.append-nil (expand p)) in omega (arith, one, e)
no_more (p ∷ q ∷ ps) f =
    let more = count_more p q ps f.0 f.1.0 in
    let one = one_break (ground_of p (piece_len p - 1)) (ground_of q 0) in
    let rest = no_more (q ∷ ps) f.1 in
    omega (arith, more, one, rest)

unjoined : (ps : List Piece) → AllByRecursion IsFilled ps → length ps ≡ piece_count (course_of ps) → Unjoined ps
unjoined [] f e = tt
unjoined (p ∷ []) f e = tt
unjoined (p ∷ q ∷ ps) f e = (false_from_ne_true (continues (ground_of p (piece_len p - 1)) (ground_of q 0)) none, unjoined (q ∷ ps) f.1 (omega (arith, more, one, rest, e)))
  where
    more : piece_count (course_of (p ∷ q ∷ ps)) ≡ breaks (ground_of p (piece_len p - 1)) (ground_of q 0) + piece_count (course_of (q ∷ ps))
    more = count_more p q ps f.0 f.1.0

    one : breaks (ground_of p (piece_len p - 1)) (ground_of q 0) ≤ 1
    one = one_break (ground_of p (piece_len p - 1)) (ground_of q 0)

    rest : piece_count (course_of (q ∷ ps)) ≤ length (q ∷ ps)
    rest = no_more (q ∷ ps) f.1

    none : continues (ground_of p (piece_len p - 1)) (ground_of q 0) ≡ true → ⊥
    none h =
        let z : breaks (ground_of p (piece_len p - 1)) (ground_of q 0) ≡ 0 = ap (λ b. let n : ℕ = cond b 0 1 in n) h in
        omega (arith, more, rest, e, z)

pub fewest_unjoined : (ps : List Piece) → IsFewest ps → Unjoined ps
fewest_unjoined ps h = unjoined ps h.filled h.fewest

-- ---- one piece

side_is : (s : LinkSide) → same_link_side s s ≡ true
side_is Left = refl
side_is Right = refl

inside : (f : Bool) (a b low high i : ℕ) → low ≤ i → i < high → high ≤ b - a → ((cond f (a + low) (b - high) ≤ cond f (a + i) (b - 1 - i)) × (cond f (a + i) (b - 1 - i) < cond f (a + high) (b - low)))
inside true a b low high i h k l = (omega (arith, h, k, l), omega (arith, h, k, l))
inside false a b low high i h k l = (omega (arith, h, k, l), omega (arith, h, k, l))

has_ground : (n a : ℕ) (s : LinkSide) (q : Piece) (low high i : ℕ) → low ≤ i → i < high → high ≤ piece_len q → has_for a (beside (ground_of q i) s) (part_between n a s q low high) ≡ true
has_ground n a s q low high i h k l =
    let both = inside q.forward q.from q.to low high i h k l in
    and_from _ _ (eq-eqb a a refl) (and_from _ _ (and_from _ _ (and_from _ _ (eq-eqb q.link q.link refl) (le-leb _ _ both.0)) (lt-ltb _ _ both.1)) (side_is (along_link q.forward s)))

in_piece : (n : ℕ) (run : Run) (s : LinkSide) (st i : ℕ) (q : Piece) → run.from ≤ st + i → st + i + 1 < run.to → i + 1 < piece_len q
    → one_has (parts_in n run s st q) run.asset (beside (ground_of q i) s) (beside (ground_of q (i + 1)) s) ≡ true
in_piece n run s st i q h k l =
    ap (λ b. one_has (cond b (x ∷ []) []) run.asset (beside (ground_of q i) s) (beside (ground_of q (i + 1)) s)) (lt-ltb low high (omega (arith, h, k, l)))
    ∙ or_left _ _ (and_from _ _ (has_ground n run.asset s q low high i (omega (arith, h)) (omega (arith, k, l)) (omega arith)) (has_ground n run.asset s q low high (i + 1) (omega (arith, h)) (omega (arith, k, l)) (omega arith)))
  where
    low : ℕ
    low = run.from - st

    high : ℕ
    high = min (run.to - st) (piece_len q)

    x : Part
    x = part_between n run.asset s q low high

-- ---- all pieces

pub in_pieces : (n : ℕ) (run : Run) (s : LinkSide) (st i : ℕ) (ps : List Piece) (d : Ground) → AllByRecursion IsFilled ps → Unjoined ps → run.from ≤ st + i → st + i + 1 < run.to → i + 1 < length (course_of ps)
    → continues (get_or (course_of ps) i d) (get_or (course_of ps) (i + 1) d) ≡ true
    → one_has (parts_from n run s st ps) run.asset (beside (get_or (course_of ps) i d) s) (beside (get_or (course_of ps) (i + 1) d) s) ≡ true
in_pieces n run s st i [] d f u h k l c = absurd (omega (arith, l))
in_pieces n run s st i (q ∷ qs) d f u h k l c = by (cases_lt (i + 1) len) (cases_lt i len) (in_pieces n run s (st + piece_len q) (i - piece_len q) qs d f.1)
  where
    len : ℕ
    len = piece_len q

    own : length (expand q) ≡ len
    own = length-expand q

    both : length (course_of (q ∷ qs)) ≡ length (expand q) + length (course_of qs)
    both = length-append (expand q) (course_of qs)

    here : (m : ℕ) → m < len → get_or (course_of (q ∷ qs)) m d ≡ ground_of q m
    here m lt = get_or_append_left (expand q) (course_of qs) d m (omega (arith, lt, own)) ∙ get_or-expand q m d lt

    there : (m : ℕ) → len ≤ m → get_or (course_of (q ∷ qs)) m d ≡ get_or (course_of qs) (m - len) d
    there m ge = get_or-append_right (expand q) (course_of qs) len m d own ge

    test : Ground → Ground → Part → Bool
    test g g' x = has_for run.asset (beside g s) x && has_for run.asset (beside g' s) x

    seam : (rs : List Piece) → AllByRecursion IsFilled (q ∷ rs) → Unjoined (q ∷ rs) → 0 < length (course_of rs) → continues (ground_of q (len - 1)) (get_or (course_of rs) 0 d) ≡ true → ⊥
    seam [] f u more c = omega (arith, more)
    seam (r ∷ rs) f u more c = both_ways (continues (ground_of q (len - 1)) (get_or (course_of (r ∷ rs)) 0 d)) (ap (continues (ground_of q (len - 1))) (filled_first r rs d f.1.0).1 ∙ u.0) c

    below : (rs : List Piece) → Unjoined (q ∷ rs) → Unjoined rs
    below [] u = tt
    below (r ∷ rs) u = u.1

    by : (i + 1 < len) ⊎ (len ≤ i + 1) → (i < len) ⊎ (len ≤ i)
        → (Unjoined qs → run.from ≤ st + len + (i - len) → st + len + (i - len) + 1 < run.to → i - len + 1 < length (course_of qs) → continues (get_or (course_of qs) (i - len) d) (get_or (course_of qs) (i - len + 1) d) ≡ true
        → one_has (parts_from n run s (st + len) qs) run.asset (beside (get_or (course_of qs) (i - len) d) s) (beside (get_or (course_of qs) (i - len + 1) d) s) ≡ true)
        → one_has (parts_from n run s st (q ∷ qs)) run.asset (beside (get_or (course_of (q ∷ qs)) i d) s) (beside (get_or (course_of (q ∷ qs)) (i + 1) d) s) ≡ true
    by (inl lt) o rest =
        (λ j. list_any (test (here i (omega (arith, lt)) j) (here (i + 1) lt j)) (parts_from n run s st (q ∷ qs)))
        ∙ list_any-append (test (ground_of q i) (ground_of q (i + 1))) (parts_in n run s st q) (parts_from n run s (st + len) qs)
        ∙ or_left _ _ (in_piece n run s st i q h k lt)
    by (inr ge) (inl lt) rest =
        let last : i ≡ len - 1 = omega (arith, ge, lt) in
        let next : i + 1 - len ≡ 0 = omega (arith, ge, lt) in
        absurd (seam qs f u (omega (arith, l, both, own, ge, lt))
        (sym (λ j. continues ((here i lt ∙ ap (ground_of q) last) j) ((there (i + 1) ge ∙ ap (λ m. get_or (course_of qs) m d) next) j)) ∙ c))
    by (inr ge) (inr past) rest =
        let next : i + 1 - len ≡ i - len + 1 = omega (arith, past) in
        let one = there i past in
        let two : get_or (course_of (q ∷ qs)) (i + 1) d ≡ get_or (course_of qs) (i - len + 1) d = there (i + 1) ge ∙ ap (λ m. get_or (course_of qs) m d) next in
        (λ j. list_any (test (one j) (two j)) (parts_from n run s st (q ∷ qs)))
        ∙ list_any-append (test (get_or (course_of qs) (i - len) d) (get_or (course_of qs) (i - len + 1) d)) (parts_in n run s st q) (parts_from n run s (st + len) qs)
        ∙ or_right _ _ (rest (below qs u) (omega (arith, h, past)) (omega (arith, k, past)) (omega (arith, l, both, own, past)) (sym (λ j. continues (one j) (two j)) ∙ c))
