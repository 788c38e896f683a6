-- The parts of rows have each place as often as the rows have it.
use Rattle.std.proofs.Common.{◌≡◌, ℕ, zero, suc, ◌+◌, ◌-◌, ◌<◌, ◌≤◌, min, Bool, true, false, cond, ◌⊎◌, inl, inr, List, [], ◌∷◌, ◌++◌, reverse, length, take, drop, refl, sym, ap, ◌∙◌, arith}
use Rattle.std.specs.Prelude.{◌&&◌, nat_eq, nat_le, nat_lt, slice_range, sum_by}
use Rattle.std.specs.List.{list_all, count_by, range_with_len}
use Rattle.std.proofs.lemmas.Bool.{and_parts, and_from, cases_Bool, cases_lt, cases_order, eqb-true, eq-eqb, ne_eqb, leb-true, lt-ltb, le-ltb, le-leb, lt-leb}
use Rattle.std.proofs.lemmas.List.Sums.{sum_by-cons}
use Rattle.lrs_measure.proofs.Counts.{count_cons, count_append}
use Rattle.lrs_element.specs.declared.link.Piece.{Piece}
use Rattle.lrs_element.specs.declared.link.Ground.{Ground}
use Rattle.lrs_element.specs.Course.{expand, course_of, millimetres}
use Rattle.lrs_element.specs.Pieces.{piece_len}
use Rattle.lrs_element.proofs.Expanding.{length-expand, part_forward, part_backward}
use Rattle.lrs_element.proofs.Walking.{range, range-append, range_capped, range_none}
use Rattle.lrs_events.specs.declared.part.Part.{Part}
use Rattle.lrs_events.specs.declared.side.Side.{Side}
use Rattle.lrs_events.specs.declared.side.Side.TheVariants.{L, R, B}
use Rattle.lrs_events.specs.declared.side.LinkSide.{LinkSide}
use Rattle.lrs_events.specs.declared.side.LinkSide.TheVariants.{Left, Right}
use Rattle.lrs_events.specs.declared.span.Span.{Span}
use Rattle.lrs_events.specs.Members.{has_side}
use Rattle.lrs_events.specs.Places.{Place, same_place, same_link_side, along_link, beside, places_on}
use Rattle.lrs_events.specs.Parts.{has_for, times_had}
use Rattle.lrs_events.specs.declared.ledgers.run.Run.{Run}
use Rattle.lrs_events.specs.Ledger.Runs.{goes_on, with_run, with_row, runs_from}
use Rattle.lrs_events.specs.Ledger.Cuts.{part_between, parts_in, parts_from, side_parts, all_parts}
use Rattle.lrs_events.specs.Ledger.Ledger.{times_in_row, times_in_rows}
use Rattle.lrs_events.proofs.Ledger.Counts.{count_one, count_reverse, count_map, count_flat_map, count_both, sum_same, sum_two}

-- one of two numbers
abbrev pub pick : Bool → ℕ → ℕ → ℕ
pick b m n = cond b m n

-- ---- one piece

pub number_same : (a b : ℕ) → nat_eq a b ≡ nat_eq b a
number_same a b = by (cases_order a b)
  where
    by : (a ≡ b) ⊎ ((a < b) ⊎ (b < a)) → nat_eq a b ≡ nat_eq b a
    by (inl e) = eq-eqb a b e ∙ sym (eq-eqb b a (sym e))
    by (inr (inl h)) = ne_eqb a b (λ e. omega (arith, e, h)) ∙ sym (ne_eqb b a (λ e. omega (arith, e, h)))
    by (inr (inr h)) = ne_eqb a b (λ e. omega (arith, e, h)) ∙ sym (ne_eqb b a (λ e. omega (arith, e, h)))

side_same : (s t : LinkSide) → same_link_side s t ≡ same_link_side t s
side_same Left Left = refl
side_same Left Right = refl
side_same Right Left = refl
side_same Right Right = refl

nothing_more : (n : ℕ) → 0 + n ≡ n
nothing_more n = omega arith

count_range : (m a n : ℕ) → count_by (λ k. nat_eq m k) (range_with_len a n) ≡ pick (nat_le a m && nat_lt m (a + n)) 1 0
count_range m a zero = by (cases_lt m a)
  where
    by : (m < a) ⊎ (a ≤ m) → zero ≡ pick (nat_le a m && nat_lt m (a + zero)) 1 0
    by (inl h) = sym (ap (λ b. pick (b && nat_lt m (a + zero)) 1 0) (lt-leb a m h))
    by (inr h) = sym (ap (λ b. pick (nat_le a m && b) 1 0) (le-ltb m (a + zero) (omega (arith, h))) ∙ no (nat_le a m))
      where
        no : (b : Bool) → pick (b && false) 1 0 ≡ 0
        no true = refl
        no false = refl
count_range m a (suc n) = count_cons (λ k. nat_eq m k) a (range_with_len (a + 1) n) ∙ ap (λ c. pick (nat_eq m a) 1 0 + c) (count_range m (a + 1) n) ∙ by (cases_order a m)
  where
    by : (a ≡ m) ⊎ ((a < m) ⊎ (m < a)) → pick (nat_eq m a) 1 0 + pick (nat_le (a + 1) m && nat_lt m ((a + 1) + n)) 1 0 ≡ pick (nat_le a m && nat_lt m (a + suc n)) 1 0
    by (inl e) =
        (λ i. pick (eq-eqb m a (sym e) i) 1 0 + pick (lt-leb (a + 1) m (omega (arith, e)) i && nat_lt m ((a + 1) + n)) 1 0)
        ∙ sym (λ i. pick (le-leb a m (omega (arith, e)) i && lt-ltb m (a + suc n) (omega (arith, e)) i) 1 0)
    by (inr (inl h)) =
        (λ i. pick (ne_eqb m a (λ e. omega (arith, e, h)) i) 1 0 + pick (le-leb (a + 1) m (omega (arith, h)) i && nat_lt m ((a + 1) + n)) 1 0)
        ∙ (let e : (a + 1) + n ≡ a + suc n = omega arith in ap (λ j. 0 + pick (nat_lt m j) 1 0) e)
        ∙ nothing_more (pick (nat_lt m (a + suc n)) 1 0)
        ∙ sym (ap (λ b. pick (b && nat_lt m (a + suc n)) 1 0) (le-leb a m (omega (arith, h))))
    by (inr (inr h)) =
        (λ i. pick (ne_eqb m a (λ e. omega (arith, e, h)) i) 1 0 + pick (lt-leb (a + 1) m (omega (arith, h)) i && nat_lt m ((a + 1) + n)) 1 0)
        ∙ sym (ap (λ b. pick (b && nat_lt m (a + suc n)) 1 0) (lt-leb a m h))

-- whether a place is beside a piece that is run in this direction, on a side of the course
abbrev pub is_beside : ℕ → ℕ → ℕ → Bool → LinkSide → Place → Bool
is_beside link a b f s p = nat_eq link p.link && nat_le a p.mm && nat_lt p.mm b && same_link_side (along_link f s) p.side

-- whether a millimetre of a course has the place on this side
abbrev pub beside_on : LinkSide → Place → Ground → Bool
beside_on s p g = same_place p (beside g s)

pub count_piece : (s : LinkSide) (q : Piece) (p : Place) → q.from ≤ q.to → count_by (beside_on s p) (expand q) ≡ pick (is_beside q.link q.from q.to q.forward s p) 1 0
count_piece s q p h =
    count_map (beside_on s p) (λ k. let g : Ground = record { link = q.link; mm = k; forward = q.forward } in g) (millimetres q)
    ∙ count_both (nat_eq p.link q.link) (same_link_side p.side (along_link q.forward s)) (λ k. nat_eq p.mm k) (millimetres q)
    ∙ ap (λ n. pick (nat_eq p.link q.link && same_link_side p.side (along_link q.forward s)) n 0) (by q.forward ∙ count_range p.mm q.from (q.to - q.from) ∙ ap (λ e. pick (nat_le q.from p.mm && nat_lt p.mm e) 1 0) end)
    ∙ (λ i. pick (number_same p.link q.link i && side_same p.side (along_link q.forward s) i) (pick (nat_le q.from p.mm && nat_lt p.mm q.to) 1 0) 0)
    ∙ shape (nat_eq q.link p.link) (nat_le q.from p.mm) (nat_lt p.mm q.to) (same_link_side (along_link q.forward s) p.side)
  where
    by : (f : Bool) → count_by (λ k. nat_eq p.mm k) (cond f (range_with_len q.from (q.to - q.from)) (reverse (range_with_len q.from (q.to - q.from)))) ≡ count_by (λ k. nat_eq p.mm k) (range_with_len q.from (q.to - q.from))
    by true = refl
    by false = count_reverse (λ k. nat_eq p.mm k) (range_with_len q.from (q.to - q.from))

    end : q.from + (q.to - q.from) ≡ q.to
    end = omega (arith, h)

    shape : (a l t b : Bool) → pick (a && b) (pick (l && t) 1 0) 0 ≡ pick (((a && l) && t) && b) 1 0
    shape true true true b = refl
    shape true true false true = refl
    shape true true false false = refl
    shape true false t true = refl
    shape true false t false = refl
    shape false l t b = refl

-- ---- a run

-- how often the run has the place on this side of a course
abbrev pub run_times : LinkSide → List Ground → ℕ → Place → Run → ℕ
run_times s course a p run = pick (nat_eq run.asset a) (count_by (beside_on s p) (slice_range course run.from run.to)) 0

-- a piece from its place low up to its place high
pub part_any : (l a b : ℕ) (f : Bool) (low high : ℕ) → low < high → high ≤ b - a
    → expand (record { link = l; from = pick f (a + low) (b - high); to = pick f (a + high) (b - low); forward = f }) ≡ take (high - low) (drop low (expand (record { link = l; from = a; to = b; forward = f })))
part_any l a b true low high h k = part_forward l a b low high h k
part_any l a b false low high h k = part_backward l a b low high h k

ends_rise : (a b : ℕ) (f : Bool) (low high : ℕ) → low < high → high ≤ b - a → pick f (a + low) (b - high) ≤ pick f (a + high) (b - low)
ends_rise a b true low high h k = omega (arith, h, k)
ends_rise a b false low high h k = omega (arith, h, k)

count_in : (n : ℕ) (run : Run) (s : LinkSide) (st : ℕ) (q : Piece) (a : ℕ) (p : Place)
    → count_by (has_for a p) (parts_in n run s st q) ≡ pick (nat_eq run.asset a) (count_by (beside_on s p) (range (run.from - st) (run.to - st) (expand q))) 0
count_in n run s st q a p = by (cases_lt low high)
  where
    low : ℕ
    low = run.from - st

    high : ℕ
    high = min (run.to - st) (piece_len q)

    x : Part
    x = part_between n run.asset s q low high

    capped : high ≡ min (run.to - st) (length (expand q))
    capped = ap (min (run.to - st)) (sym (length-expand q))

    chosen : Bool → List Part
    chosen b = cond b (x ∷ []) []

    inside : (b h : Bool) → pick (b && h) 1 0 ≡ pick b (pick h 1 0) 0
    inside true h = refl
    inside false h = refl

    by : (low < high) ⊎ (high ≤ low) → count_by (has_for a p) (parts_in n run s st q) ≡ pick (nat_eq run.asset a) (count_by (beside_on s p) (range low (run.to - st) (expand q))) 0
    by (inl h) =
        let fits : high ≤ q.to - q.from = omega arith in
        let q' : Piece = record { link = q.link; from = pick q.forward (q.from + low) (q.to - high); to = pick q.forward (q.from + high) (q.to - low); forward = q.forward } in
        ap (λ b. count_by (has_for a p) (chosen b)) (lt-ltb low high h)
        ∙ count_one (has_for a p) x
        ∙ inside (nat_eq run.asset a) (is_beside q'.link q'.from q'.to q'.forward s p)
        ∙ ap (λ m. pick (nat_eq run.asset a) m 0)
        (sym (count_piece s q' p (ends_rise q.from q.to q.forward low high h fits))
        ∙ ap (count_by (beside_on s p)) (part_any q.link q.from q.to q.forward low high h fits ∙ range_capped low (run.to - st) high (expand q) capped))
    by (inr h) =
        ap (λ b. count_by (has_for a p) (chosen b)) (le-ltb low high h)
        ∙ sym (ap (λ xs. pick (nat_eq run.asset a) (count_by (beside_on s p) xs) 0) (range_none low (run.to - st) high (expand q) capped h) ∙ none (nat_eq run.asset a))
      where
        none : (b : Bool) → pick b 0 0 ≡ 0
        none true = refl
        none false = refl

two_conds : (b : Bool) (m n : ℕ) → pick b m 0 + pick b n 0 ≡ pick b (m + n) 0
two_conds true m n = refl
two_conds false m n = refl

pub count_from : (n : ℕ) (run : Run) (s : LinkSide) (st : ℕ) (ps : List Piece) (a : ℕ) (p : Place)
    → count_by (has_for a p) (parts_from n run s st ps) ≡ pick (nat_eq run.asset a) (count_by (beside_on s p) (range (run.from - st) (run.to - st) (course_of ps))) 0
count_from n run s st [] a p = sym (ap (λ xs. pick (nat_eq run.asset a) (count_by (beside_on s p) xs) 0) (range_none (run.from - st) (run.to - st) 0 [] (omega arith) (omega arith)) ∙ none (nat_eq run.asset a))
  where
    none : (b : Bool) → pick b 0 0 ≡ 0
    none true = refl
    none false = refl
count_from n run s st (q ∷ qs) a p =
    count_append (has_for a p) (parts_in n run s st q) (parts_from n run s (st + piece_len q) qs)
    ∙ (λ i. count_in n run s st q a p i + count_from n run s (st + piece_len q) qs a p i)
    ∙ two_conds (nat_eq run.asset a) (count_by (beside_on s p) here) (count_by (beside_on s p) there)
    ∙ ap (λ m. pick (nat_eq run.asset a) m 0) (sym (count_append (beside_on s p) here there) ∙ ap (count_by (beside_on s p)) (sym all))
  where
    len : ℕ
    len = piece_len q

    here : List Ground
    here = range (run.from - st) (run.to - st) (expand q)

    there : List Ground
    there = range (run.from - (st + len)) (run.to - (st + len)) (course_of qs)

    all : range (run.from - st) (run.to - st) (course_of (q ∷ qs)) ≡ here ++ there
    all =
        let e : run.from - st - len ≡ run.from - (st + len) = omega arith in
        let f : run.to - st - len ≡ run.to - (st + len) = omega arith in
        range-append (run.from - st) (run.to - st) len (expand q) (course_of qs) (sym (length-expand q)) ∙ (λ i. here ++ range (e i) (f i) (course_of qs))

count_run : (n : ℕ) (run : Run) (s : LinkSide) (ps : List Piece) (a : ℕ) (p : Place) → count_by (has_for a p) (parts_from n run s 0 ps) ≡ run_times s (course_of ps) a p run
count_run n run s ps a p =
    let e : run.from - 0 ≡ run.from = omega arith in
    let f : run.to - 0 ≡ run.to = omega arith in
    count_from n run s 0 ps a p ∙ (λ i. pick (nat_eq run.asset a) (count_by (beside_on s p) (range (e i) (f i) (course_of ps))) 0)

pub count_side : (n : ℕ) (rows : List Span) (s : LinkSide) (ps : List Piece) (a : ℕ) (p : Place) → times_had a p (side_parts n rows s ps) ≡ sum_by (run_times s (course_of ps) a p) (runs_from s [] rows)
count_side n rows s ps a p =
    count_flat_map (has_for a p) (λ run. parts_from n run s 0 ps) (runs_from s [] rows)
    ∙ sum_same (λ run. count_by (has_for a p) (parts_from n run s 0 ps)) (run_times s (course_of ps) a p) (runs_from s [] rows) (λ run. count_run n run s ps a p)

-- ---- rows

pub take_sum : {X : Type 0} (i j k : ℕ) (xs : List X) → k ≡ i + j → take k xs ≡ take i xs ++ take j (drop i xs)
take_sum zero j k xs e = ap (λ m. take m xs) (let f : k ≡ j = omega (arith, e) in f)
take_sum (suc i) j zero xs e = absurd (omega (arith, e))
take_sum {X = X} (suc i) zero (suc k) [] e = refl
take_sum {X = X} (suc i) (suc j) (suc k) [] e = refl
take_sum {X = X} (suc i) j (suc k) (x ∷ xs) e = ap (λ (ys : List X). x ∷ ys) (take_sum i j k xs (omega (arith, e)))

pub drop_sum : {X : Type 0} (f i k : ℕ) (xs : List X) → k ≡ f + i → drop i (drop f xs) ≡ drop k xs
drop_sum zero i k xs e = ap (λ m. drop m xs) (let f : i ≡ k = omega (arith, e) in f)
drop_sum (suc f) i zero xs e = absurd (omega (arith, e))
drop_sum {X = X} (suc f) zero (suc k) [] e = refl
drop_sum {X = X} (suc f) (suc i) (suc k) [] e = refl
drop_sum (suc f) i (suc k) (x ∷ xs) e = drop_sum f i k xs (omega (arith, e))

slice_two : (xs : List Ground) (f m t : ℕ) → f ≤ m → m ≤ t → slice_range xs f t ≡ slice_range xs f m ++ slice_range xs m t
slice_two xs f m t h k =
    take_sum (m - f) (t - m) (t - f) (drop f xs) (omega (arith, h, k)) ∙ (λ i. slice_range xs f m ++ take (t - m) (drop_sum f (m - f) m xs (omega (arith, h)) i))

abbrev pub upright : Run → Bool
upright x = nat_le x.from x.to

abbrev pub longer : Run → Run → Run
longer x y = record { asset = x.asset; from = x.from; to = y.to }

joined_times : (s : LinkSide) (course : List Ground) (a : ℕ) (p : Place) (x y : Run) → goes_on x y ≡ true → upright x ≡ true → upright y ≡ true
    → run_times s course a p (longer x y) ≡ run_times s course a p x + run_times s course a p y
joined_times s course a p x y h ux uy =
    let both = and_parts (nat_eq x.asset y.asset) (nat_eq x.to y.from) h in
    let asset : x.asset ≡ y.asset = eqb-true x.asset y.asset both.0 in
    let to : x.to ≡ y.from = eqb-true x.to y.from both.1 in
    let low = leb-true x.from x.to ux in
    let high = leb-true y.from y.to uy in
    ap (λ gs. pick (nat_eq x.asset a) (count_by (beside_on s p) gs) 0) (slice_two course x.from x.to y.to low (omega (arith, to, high)))
    ∙ ap (λ m. pick (nat_eq x.asset a) m 0) (count_append (beside_on s p) (slice_range course x.from x.to) (slice_range course x.to y.to))
    ∙ sym (two_conds (nat_eq x.asset a) (count_by (beside_on s p) (slice_range course x.from x.to)) (count_by (beside_on s p) (slice_range course x.to y.to)))
    ∙ (λ i. run_times s course a p x + pick (nat_eq (asset i) a) (count_by (beside_on s p) (slice_range course (to i) y.to)) 0)

pub with_run_upright : (xs : List Run) (y : Run) → list_all upright xs ≡ true → upright y ≡ true → list_all upright (with_run xs y) ≡ true
with_run_upright [] y h k = and_from (upright y) true k refl
with_run_upright (x ∷ []) y h k = by (cases_Bool (goes_on x y))
  where
    one : upright x ≡ true
    one = (and_parts (upright x) true h).0

    by : (goes_on x y ≡ true) ⊎ (goes_on x y ≡ false) → list_all upright (with_run (x ∷ []) y) ≡ true
    by (inl g) =
        let to : x.to ≡ y.from = eqb-true x.to y.from (and_parts (nat_eq x.asset y.asset) (nat_eq x.to y.from) g).1 in
        let low = leb-true x.from x.to one in
        let high = leb-true y.from y.to k in
        ap (λ b. list_all upright (cond b (longer x y ∷ []) (x ∷ y ∷ []))) g ∙ and_from (upright (longer x y)) true (le-leb x.from y.to (omega (arith, to, low, high))) refl
    by (inr g) = ap (λ b. list_all upright (cond b (longer x y ∷ []) (x ∷ y ∷ []))) g ∙ and_from (upright x) (upright y && true) one (and_from (upright y) true k refl)
with_run_upright (x ∷ z ∷ xs) y h k =
    let both = and_parts (upright x) (list_all upright (z ∷ xs)) h in
    and_from (upright x) (list_all upright (with_run (z ∷ xs) y)) both.0 (with_run_upright (z ∷ xs) y both.1 k)

abbrev pub run_of : Span → Run
run_of r = record { asset = r.asset; from = r.from; to = r.to }

abbrev pub is_upright : Span → Bool
is_upright r = nat_le r.from r.to

pub with_row_upright : (s : LinkSide) (xs : List Run) (r : Span) → list_all upright xs ≡ true → is_upright r ≡ true → list_all upright (with_row s xs r) ≡ true
with_row_upright s xs r h k = by (cases_Bool (has_side r.side s))
  where
    by : (has_side r.side s ≡ true) ⊎ (has_side r.side s ≡ false) → list_all upright (with_row s xs r) ≡ true
    by (inl g) = ap (λ b. list_all upright (cond b (with_run xs (run_of r)) xs)) g ∙ with_run_upright xs (run_of r) h k
    by (inr g) = ap (λ b. list_all upright (cond b (with_run xs (run_of r)) xs)) g ∙ h

module _ (F : Run → ℕ) (joined : (x y : Run) → goes_on x y ≡ true → upright x ≡ true → upright y ≡ true → F (longer x y) ≡ F x + F y) where
  with_run_sum : (xs : List Run) (y : Run) → list_all upright xs ≡ true → upright y ≡ true → sum_by F (with_run xs y) ≡ sum_by F xs + F y
  with_run_sum [] y h k = let e = sum_by-cons F y [] in omega (arith, e)
  with_run_sum (x ∷ []) y h k = by (cases_Bool (goes_on x y))
    where
      by : (goes_on x y ≡ true) ⊎ (goes_on x y ≡ false) → sum_by F (with_run (x ∷ []) y) ≡ sum_by F (x ∷ []) + F y
      by (inl g) =
          let e = sum_by-cons F (longer x y) [] in
          let f = sum_by-cons F x [] in
          let j = joined x y g (and_parts (upright x) true h).0 k in
          let same : sum_by F (longer x y ∷ []) ≡ sum_by F (x ∷ []) + F y = omega (arith, e, f, j) in
          ap (λ b. sum_by F (cond b (longer x y ∷ []) (x ∷ y ∷ []))) g ∙ same
      by (inr g) =
          let e = sum_by-cons F x (y ∷ []) in
          let f = sum_by-cons F x [] in
          let o = sum_by-cons F y [] in
          let same : sum_by F (x ∷ y ∷ []) ≡ sum_by F (x ∷ []) + F y = omega (arith, e, f, o) in
          ap (λ b. sum_by F (cond b (longer x y ∷ []) (x ∷ y ∷ []))) g ∙ same
  with_run_sum (x ∷ z ∷ xs) y h k =
      let e = sum_by-cons F x (with_run (z ∷ xs) y) in
      let f = sum_by-cons F x (z ∷ xs) in
      let r = with_run_sum (z ∷ xs) y (and_parts (upright x) (list_all upright (z ∷ xs)) h).1 k in
      omega (arith, e, f, r)

  abbrev on_row : LinkSide → Span → ℕ
  on_row s r = pick (has_side r.side s) (F (run_of r)) 0

  with_row_sum : (s : LinkSide) (xs : List Run) (r : Span) → list_all upright xs ≡ true → is_upright r ≡ true → sum_by F (with_row s xs r) ≡ sum_by F xs + on_row s r
  with_row_sum s xs r h k = by (cases_Bool (has_side r.side s))
    where
      by : (has_side r.side s ≡ true) ⊎ (has_side r.side s ≡ false) → sum_by F (with_row s xs r) ≡ sum_by F xs + on_row s r
      by (inl g) =
          ap (λ b. sum_by F (cond b (with_run xs (run_of r)) xs)) g ∙ with_run_sum xs (run_of r) h k
          ∙ sym (ap (λ b. sum_by F xs + pick b (F (run_of r)) 0) g)
      by (inr g) =
          ap (λ b. sum_by F (cond b (with_run xs (run_of r)) xs)) g ∙ plus_none (sum_by F xs)
          ∙ sym (ap (λ b. sum_by F xs + pick b (F (run_of r)) 0) g)
        where
          plus_none : (n : ℕ) → n ≡ n + 0
          plus_none n = omega arith

  runs_from_sum : (s : LinkSide) (xs : List Run) (rows : List Span) → list_all upright xs ≡ true → list_all is_upright rows ≡ true → sum_by F (runs_from s xs rows) ≡ sum_by F xs + sum_by (on_row s) rows
  runs_from_sum s xs [] h k = omega arith
  runs_from_sum s xs (r ∷ rs) h k =
      let both = and_parts (is_upright r) (list_all is_upright rs) k in
      let rest = runs_from_sum s (with_row s xs r) rs (with_row_upright s xs r h both.0) both.1 in
      let here = with_row_sum s xs r h both.0 in
      let e = sum_by-cons (on_row s) r rs in
      omega (arith, rest, here, e)

-- ---- both sides

count_left : (gs : List Ground) (p : Place) → count_by (same_place p) (places_on L gs) ≡ count_by (beside_on Left p) gs
count_left [] p = refl
count_left (g ∷ gs) p = count_cons (same_place p) (beside g Left) (places_on L gs) ∙ ap (λ n. pick (same_place p (beside g Left)) 1 0 + n) (count_left gs p) ∙ sym (count_cons (beside_on Left p) g gs)

count_right : (gs : List Ground) (p : Place) → count_by (same_place p) (places_on R gs) ≡ count_by (beside_on Right p) gs
count_right [] p = refl
count_right (g ∷ gs) p = count_cons (same_place p) (beside g Right) (places_on R gs) ∙ ap (λ n. pick (same_place p (beside g Right)) 1 0 + n) (count_right gs p) ∙ sym (count_cons (beside_on Right p) g gs)

count_sides : (gs : List Ground) (p : Place) → count_by (same_place p) (places_on B gs) ≡ count_by (beside_on Left p) gs + count_by (beside_on Right p) gs
count_sides [] p = refl
count_sides (g ∷ gs) p =
    let a = count_cons (same_place p) (beside g Left) (beside g Right ∷ places_on B gs) in
    let b = count_cons (same_place p) (beside g Right) (places_on B gs) in
    let c = count_sides gs p in
    let d = count_cons (beside_on Left p) g gs in
    let e = count_cons (beside_on Right p) g gs in
    omega (arith, a, b, c, d, e)

both_sides : (side : Side) (b : Bool) (gs : List Ground) (p : Place)
    → pick b (count_by (same_place p) (places_on side gs)) 0 ≡ pick (has_side side Left) (pick b (count_by (beside_on Left p) gs) 0) 0 + pick (has_side side Right) (pick b (count_by (beside_on Right p) gs) 0) 0
both_sides L b gs p = ap (λ n. pick b n 0) (count_left gs p) ∙ plus_none (pick b (count_by (beside_on Left p) gs) 0)
  where
    plus_none : (n : ℕ) → n ≡ n + 0
    plus_none n = omega arith
both_sides R b gs p = ap (λ n. pick b n 0) (count_right gs p) ∙ none_plus (pick b (count_by (beside_on Right p) gs) 0)
  where
    none_plus : (n : ℕ) → n ≡ 0 + n
    none_plus n = omega arith
both_sides B b gs p = ap (λ n. pick b n 0) (count_sides gs p) ∙ sym (two_conds b (count_by (beside_on Left p) gs) (count_by (beside_on Right p) gs))

pub all_counted : (n : ℕ) (rows : List Span) (ps : List Piece) (a : ℕ) (p : Place) → list_all is_upright rows ≡ true → times_had a p (all_parts n rows ps) ≡ times_in_rows (course_of ps) rows a p
all_counted n rows ps a p h =
    let course = course_of ps in
    let F = run_times Left course a p in
    let G = run_times Right course a p in
    let whole = count_append (has_for a p) (side_parts n rows Left ps) (side_parts n rows Right ps) in
    let left = count_side n rows Left ps a p in
    let right = count_side n rows Right ps a p in
    let lefts = runs_from_sum F (joined_times Left course a p) Left [] rows refl h in
    let rights = runs_from_sum G (joined_times Right course a p) Right [] rows refl h in
    let two = sum_two (on_row F (joined_times Left course a p) Left) (on_row G (joined_times Right course a p) Right) rows in
    let rows_are = sum_same (times_in_row course a p) (λ r. on_row F (joined_times Left course a p) Left r + on_row G (joined_times Right course a p) Right r) rows
    (λ r. both_sides r.side (nat_eq r.asset a) (slice_range course r.from r.to) p) in
    omega (arith, whole, left, right, lefts, rights, two, rows_are)
