-- What pieces expand to, entry by entry.
use Rattle.std.proofs.Common.{ℕ, ◌≡◌, ◌+◌, ◌-◌, ◌<◌, ◌≤◌, Bool, true, false, if◌then◌else◌, List, ◌++◌, length, get_or, take, drop, map, sym, ◌∙◌, ap, refl, subst, arith, ⊎_elim, Some, slice_get}
use Rattle.std.specs.Prelude.{reverse, not}
use Rattle.std.proofs.lemmas.Bool.{cases_lt}
use Rattle.std.specs.List.{range_with_len}
use Rattle.std.proofs.lemmas.List.{same_lists, length-map, length-take, length-drop, length-append, length-reverse, get_or-map, get_or-take, get_or-drop, get_or-reverse, get_or_append_left, get_or-append_right, map-append, reverse-append}
use Rattle.std.proofs.lemmas.Option.{slice_get-get_or}
use Rattle.std.proofs.lemmas.List.FromFn.{length-range_with_len, get_or-range_with_len}
use Rattle.lrs_element.specs.declared.link.Piece.{Piece}
use Rattle.lrs_element.specs.declared.link.Ground.{Ground}
use Rattle.lrs_element.specs.Course.{expand, turned}
use Rattle.lrs_element.specs.Pieces.{ground_of, piece_len, IsFilled, Continues}

-- the millimetre m of a link
abbrev at_mm : ℕ → Bool → ℕ → Ground
at_mm l f m = record { link = l; mm = m; forward = f }

-- n millimetres of a link from a on, in their order or in the reverse one
abbrev run : Bool → ℕ → ℕ → List ℕ
run f a n = if f then range_with_len a n else reverse (range_with_len a n)

length-run : (f : Bool) (a n : ℕ) → length (run f a n) ≡ n
length-run true a n = length-range_with_len a n
length-run false a n = length-reverse (range_with_len a n) ∙ length-range_with_len a n

get_or-run : (f : Bool) (a b i d : ℕ) → i < b - a → get_or (run f a (b - a)) i d ≡ (if f then a + i else b - 1 - i)
get_or-run true a b i d h = get_or-range_with_len a (b - a) i d h
get_or-run false a b i d h =
    let n : length (range_with_len a (b - a)) ≡ b - a = length-range_with_len a (b - a) in
    get_or-reverse (range_with_len a (b - a)) i d (omega arith)
    ∙ ap (λ (k : ℕ). get_or (range_with_len a (b - a)) (k - 1 - i) d) n
    ∙ get_or-range_with_len a (b - a) (b - a - 1 - i) d (omega arith)
    ∙ omega arith

pub length-expand : (p : Piece) → length (expand p) ≡ piece_len p
length-expand p = length-map (run p.forward p.from (p.to - p.from)) (at_mm p.link p.forward) ∙ length-run p.forward p.from (p.to - p.from)

pub get_or-expand : (p : Piece) (i : ℕ) (d : Ground) → i < piece_len p → get_or (expand p) i d ≡ ground_of p i
get_or-expand p i d h =
    get_or-map (at_mm p.link p.forward) (run p.forward p.from (p.to - p.from)) i 0 d (omega (arith, length-run p.forward p.from (p.to - p.from)))
    ∙ ap (at_mm p.link p.forward) (get_or-run p.forward p.from p.to i 0 h)

-- a list is the expanded piece where each place agrees
is_expanded : (p : Piece) (xs : List Ground) → length xs ≡ piece_len p → ((i : ℕ) (d : Ground) → i < piece_len p → get_or xs i d ≡ ground_of p i) → expand p ≡ xs
is_expanded p xs l h = same_lists _ _ (length-expand p ∙ sym l) (λ k d lt. let b : k < piece_len p = omega (arith, length-expand p) in get_or-expand p k d b ∙ sym (h k d b))

-- the piece q runs over what p runs over from its place i on
is_part : (p q : Piece) (i : ℕ) → i + piece_len q ≤ piece_len p → ((k : ℕ) → k < piece_len q → ground_of q k ≡ ground_of p (i + k)) → expand q ≡ take (piece_len q) (drop i (expand p))
is_part p q i fits same = is_expanded q _
    (omega (arith, length-take (piece_len q) (drop i (expand p)), length-drop i (expand p), length-expand p))
    (λ k d h. get_or-take (piece_len q) (drop i (expand p)) k d h ∙ get_or-drop i (expand p) k d ∙ get_or-expand p (i + k) d (omega arith) ∙ sym (same k h))

-- a piece by its parts
same_piece : (p : Piece) (l a b : ℕ) (f : Bool) → p.link ≡ l → p.from ≡ a → p.to ≡ b → p.forward ≡ f → p ≡ record { link = l; from = a; to = b; forward = f }
same_piece p l a b f hl ha hb hf = λ i. record { link = hl i; from = ha i; to = hb i; forward = hf i }

pub part_forward : (l a b f t : ℕ) → f < t → t ≤ b - a → expand (record { link = l; from = a + f; to = a + t; forward = true }) ≡ take (t - f) (drop f (expand (record { link = l; from = a; to = b; forward = true })))
part_forward l a b f t h i =
    let e : a + t - (a + f) ≡ t - f = omega arith in
    rw (← e) (is_part (record { link = l; from = a; to = b; forward = true }) (record { link = l; from = a + f; to = a + t; forward = true }) f (omega arith)
    (λ k lt. let m : a + f + k ≡ a + (f + k) = omega arith in ap (at_mm l true) m))

pub part_backward : (l a b f t : ℕ) → f < t → t ≤ b - a → expand (record { link = l; from = b - t; to = b - f; forward = false }) ≡ take (t - f) (drop f (expand (record { link = l; from = a; to = b; forward = false })))
part_backward l a b f t h i =
    let e : b - f - (b - t) ≡ t - f = omega arith in
    rw (← e) (is_part (record { link = l; from = a; to = b; forward = false }) (record { link = l; from = b - t; to = b - f; forward = false }) f (omega arith)
    (λ k lt. let m : b - f - 1 - k ≡ b - 1 - (f + k) = omega arith in ap (at_mm l false) m))

-- the piece r runs over what p runs over, and then what q runs over
is_joined : (p q r : Piece) → piece_len r ≡ piece_len p + piece_len q → ((k : ℕ) → k < piece_len p → ground_of r k ≡ ground_of p k) → ((k : ℕ) → k < piece_len q → ground_of r (piece_len p + k) ≡ ground_of q k) → expand r ≡ expand p ++ expand q
is_joined p q r l here there = is_expanded r _
    (length-append (expand p) (expand q) ∙ omega (arith, length-expand p, length-expand q))
    (λ k d h. ⊎_elim
    (λ (lt : k < piece_len p). get_or_append_left (expand p) (expand q) d k (omega (arith, length-expand p)) ∙ get_or-expand p k d lt ∙ sym (here k lt))
    (λ (ge : piece_len p ≤ k).
    let e : piece_len p + (k - piece_len p) ≡ k = omega arith in
    get_or-append_right (expand p) (expand q) (piece_len p) k d (length-expand p) ge ∙ get_or-expand q (k - piece_len p) d (omega arith) ∙ sym (there (k - piece_len p) (omega arith)) ∙ ap (ground_of r) e)
    (cases_lt k (piece_len p)))

joined_forward : (l a b c : ℕ) → a < b → b < c → expand (record { link = l; from = a; to = c; forward = true }) ≡ expand (record { link = l; from = a; to = b; forward = true }) ++ expand (record { link = l; from = b; to = c; forward = true })
joined_forward l a b c h i = is_joined _ _ _ (omega arith) (λ k lt. refl) (λ k lt. let m : a + (b - a + k) ≡ b + k = omega arith in ap (at_mm l true) m)

joined_backward : (l a b c : ℕ) → a < b → b < c → expand (record { link = l; from = a; to = c; forward = false }) ≡ expand (record { link = l; from = b; to = c; forward = false }) ++ expand (record { link = l; from = a; to = b; forward = false })
joined_backward l a b c h i = is_joined _ _ _ (omega arith) (λ k lt. refl) (λ k lt. let m : c - 1 - (c - b + k) ≡ b - 1 - k = omega arith in ap (at_mm l false) m)

pub joined_true : (p q : Piece) → p.forward ≡ true → Continues p q → IsFilled p → IsFilled q → expand (record { link = p.link; from = p.from; to = q.to; forward = p.forward }) ≡ expand p ++ expand q
joined_true p q h c pf qf =
    let k : q.forward ≡ true = sym c.same_direction ∙ h in
    let m : p.to ≡ q.from = rw (h, k) at c.meets in
    let x : q ≡ record { link = p.link; from = p.to; to = q.to; forward = true } = same_piece q p.link p.to q.to true (sym c.same_link) (sym m) refl k in
    let y : p ≡ record { link = p.link; from = p.from; to = p.to; forward = true } = same_piece p p.link p.from p.to true refl refl refl h in
    let j = joined_forward p.link p.from p.to q.to pf (let z : q.from < q.to = qf in omega arith) in
    let P : Bool → Type 0 = λ f. expand (record { link = p.link; from = p.from; to = q.to; forward = f }) ≡ expand p ++ expand q in
    subst P (sym h) (j ∙ sym (ap (λ (w : Piece). expand w ++ expand q) y ∙ ap (λ (w : Piece). expand (record { link = p.link; from = p.from; to = p.to; forward = true }) ++ expand w) x))

pub joined_false : (p q : Piece) → p.forward ≡ false → Continues p q → IsFilled p → IsFilled q → expand (record { link = p.link; from = q.from; to = p.to; forward = p.forward }) ≡ expand p ++ expand q
joined_false p q h c pf qf =
    let k : q.forward ≡ false = sym c.same_direction ∙ h in
    let m : q.to ≡ p.from = sym (rw (h, k) at c.meets) in
    let x : q ≡ record { link = p.link; from = q.from; to = p.from; forward = false } = same_piece q p.link q.from p.from false (sym c.same_link) refl m k in
    let y : p ≡ record { link = p.link; from = p.from; to = p.to; forward = false } = same_piece p p.link p.from p.to false refl refl refl h in
    let j = joined_backward p.link q.from p.from p.to (let z : q.from < q.to = qf in omega arith) pf in
    let P : Bool → Type 0 = λ f. expand (record { link = p.link; from = q.from; to = p.to; forward = f }) ≡ expand p ++ expand q in
    subst P (sym h) (j ∙ sym (ap (λ (w : Piece). expand w ++ expand q) y ∙ ap (λ (w : Piece). expand (record { link = p.link; from = p.from; to = p.to; forward = false }) ++ expand w) x))

-- the other way over one millimetre
abbrev pub back : Ground → Ground
back g = record { link = g.link; mm = g.mm; forward = not g.forward }

pub turned-append : (xs ys : List Ground) → turned (xs ++ ys) ≡ turned ys ++ turned xs
turned-append xs ys = ap reverse (map-append back xs ys) ∙ reverse-append (map back xs) (map back ys)

pub length-turned : (xs : List Ground) → length (turned xs) ≡ length xs
length-turned xs = length-reverse (map back xs) ∙ length-map xs back

-- an entry counted from one end and from the other
mirrored_place : (f : Bool) (a b k : ℕ) → k < b - a → (if f then a + (b - a - 1 - k) else b - 1 - (b - a - 1 - k)) ≡ (if not f then a + k else b - 1 - k)
mirrored_place true a b k h = omega arith
mirrored_place false a b k h = omega arith

-- a piece run the other way
pub expand_turned : (p : Piece) → expand (record { link = p.link; from = p.from; to = p.to; forward = not p.forward }) ≡ turned (expand p)
expand_turned p = is_expanded (record { link = p.link; from = p.from; to = p.to; forward = not p.forward }) (turned (expand p)) (length-turned (expand p) ∙ length-expand p)
    (λ k d h.
    let n : length (map back (expand p)) ≡ p.to - p.from = length-map (expand p) back ∙ length-expand p in
    get_or-reverse (map back (expand p)) k d (omega arith)
    ∙ ap (λ (j : ℕ). get_or (map back (expand p)) (j - 1 - k) d) n
    ∙ get_or-map back (expand p) (p.to - p.from - 1 - k) d d (omega (arith, length-expand p))
    ∙ ap back (get_or-expand p (p.to - p.from - 1 - k) d (omega arith))
    ∙ ap (at_mm p.link (not p.forward)) (mirrored_place p.forward p.from p.to k h))

pub slice_get-expand : (p : Piece) (i : ℕ) → i < piece_len p → slice_get (expand p) i ≡ Some (ground_of p i)
slice_get-expand p i h =
    slice_get-get_or (expand p) i (ground_of p i) (omega (arith, length-expand p)) ∙ ap Some (get_or-expand p i (ground_of p i) h)
