-- What the parts of the pieces of a course, put in order, say of the rows.
use Rattle.std.proofs.Common.{◌≡◌, ℕ, ◌+◌, ◌-◌, ◌<◌, ◌≤◌, min, Bool, true, false, cond, ◌⊎◌, inl, inr, List, [], ◌∷◌, length, get_or, refl, sym, ap, subst, ◌∙◌, arith}
use Rattle.std.specs.Prelude.{◌||◌, ◌&&◌, not, nat_eq, nat_lt}
use Rattle.std.specs.List.{list_any, list_all, AllAdjacentBelow}
use Rattle.std.specs.List.Sorted.{IsPermutation}
use Rattle.std.proofs.lemmas.Bool.{and_parts, and_from, or_left, or_right, cases_lt, eq-eqb, eqb-true, le-leb, lt-ltb, le-ltb}
use Rattle.std.proofs.lemmas.List.Folds.{list_any-append, list_all-append}
use Rattle.std.proofs.lemmas.List.Sorted.{list_any-IsPermutation, sum_by-IsPermutation}
use Rattle.lrs_measure.specs.Lists.{In, each_two}
use Rattle.lrs_measure.proofs.Members.{any_found, any_of, any_given, all_given, not_any}
use Rattle.lrs_element.specs.declared.link.Piece.{Piece}
use Rattle.lrs_element.specs.declared.link.Ground.{Ground}
use Rattle.lrs_element.specs.Course.{course_of, continues}
use Rattle.lrs_element.specs.Pieces.{piece_len}
use Rattle.lrs_events.specs.declared.part.Part.{Part}
use Rattle.lrs_events.specs.declared.side.LinkSide.{LinkSide}
use Rattle.lrs_events.specs.declared.side.LinkSide.TheVariants.{Left, Right}
use Rattle.lrs_events.specs.declared.span.Span.{Span}
use Rattle.lrs_events.specs.Places.{Place, beside, differs}
use Rattle.lrs_events.specs.Parts.{has_for, has_pair, has_place, times_had, IsHadOnce, part_before}
use Rattle.lrs_events.specs.Spans.{are_rows, is_row, span_before, are_apart, holds_by_spans}
use Rattle.lrs_events.specs.declared.ledgers.run.Run.{Run}
use Rattle.lrs_events.specs.Ledger.Runs.{runs_from}
use Rattle.lrs_events.specs.Ledger.Cuts.{part_between, parts_in, parts_from, side_parts, all_parts, AreCut}
use Rattle.lrs_events.specs.Ledger.Ledger.{times_in_rows, lies_in, AreInPieces, are_on, one_has, AreWhole, NoneIsShorter}
use Rattle.lrs_events.proofs.Ledger.Counts.{any_counted}
use Rattle.lrs_events.proofs.Ledger.Counted.{number_same, all_counted}
use Rattle.lrs_events.proofs.Ledger.Once.{are_had, rows_once}
use Rattle.lrs_events.proofs.Ledger.Joined.{covers, covered, AreInOrder, one_run, upright_rows}
use Rattle.lrs_events.proofs.Ledger.Whole.{fewest_unjoined, in_pieces}
use Rattle.lrs_events.proofs.Ledger.Keys.{strictly}
use Rattle.lrs_events.proofs.Ledger.Fewest.{no_fewer}

-- ---- each part

all_moved : {X : Type 0} (p : X → Bool) (xs ys : List X) → IsPermutation xs ys → list_all p xs ≡ true → list_all p ys ≡ true
all_moved p xs ys h all = not_any p ys ∙ ap not (sym (list_any-IsPermutation (λ x. not (p x)) xs ys h)) ∙ sym (not_any p xs) ∙ all

module _ (n : ℕ) (pieces : List Piece) (T : Part → Bool)
    (holds : (asset : ℕ) (s : LinkSide) (q : Piece) (low high : ℕ) → In q pieces → low < high → high ≤ piece_len q → T (part_between n asset s q low high) ≡ true) where
  every_in : (run : Run) (s : LinkSide) (st : ℕ) (q : Piece) → In q pieces → list_all T (parts_in n run s st q) ≡ true
  every_in run s st q m = by (cases_lt low high)
    where
      low : ℕ
      low = run.from - st

      high : ℕ
      high = min (run.to - st) (piece_len q)

      x : Part
      x = part_between n run.asset s q low high

      by : (low < high) ⊎ (high ≤ low) → list_all T (parts_in n run s st q) ≡ true
      by (inl h) = ap (λ b. list_all T (cond b (x ∷ []) [])) (lt-ltb low high h) ∙ and_from (T x) true (holds run.asset s q low high m h (omega arith)) refl
      by (inr h) = ap (λ b. list_all T (cond b (x ∷ []) [])) (le-ltb low high h)

  every_from : (run : Run) (s : LinkSide) (st : ℕ) (ps : List Piece) → ((q : Piece) → In q ps → In q pieces) → list_all T (parts_from n run s st ps) ≡ true
  every_from run s st [] w = refl
  every_from run s st (q ∷ qs) w =
      list_all-append T (parts_in n run s st q) (parts_from n run s (st + piece_len q) qs)
      ∙ and_from (list_all T (parts_in n run s st q)) (list_all T (parts_from n run s (st + piece_len q) qs)) (every_in run s st q (w q (inl refl))) (every_from run s (st + piece_len q) qs (λ r m. w r (inr m)))

  every_side : (rows : List Span) (s : LinkSide) → list_all T (side_parts n rows s pieces) ≡ true
  every_side rows s = all_given T (λ run. parts_from n run s 0 pieces) (runs_from s [] rows) (λ run. every_from run s 0 pieces (λ q m. m))

  every : (rows : List Span) → list_all T (all_parts n rows pieces) ≡ true
  every rows =
      list_all-append T (side_parts n rows Left pieces) (side_parts n rows Right pieces)
      ∙ and_from (list_all T (side_parts n rows Left pieces)) (list_all T (side_parts n rows Right pieces)) (every_side rows Left) (every_side rows Right)

rises : (f : Bool) (a b low high : ℕ) → low < high → high ≤ b - a → cond f (a + low) (b - high) < cond f (a + high) (b - low)
rises true a b low high h k = omega (arith, h, k)
rises false a b low high h k = omega (arith, h, k)

above : (f : Bool) (a b low high : ℕ) → low < high → high ≤ b - a → a ≤ cond f (a + low) (b - high)
above true a b low high h k = omega (arith, h, k)
above false a b low high h k = omega (arith, h, k)

below : (f : Bool) (a b low high : ℕ) → low < high → high ≤ b - a → cond f (a + high) (b - low) ≤ b
below true a b low high h k = omega (arith, h, k)
below false a b low high h k = omega (arith, h, k)

-- ---- pairs

pairs_of_edit : (n m a : ℕ) (p : Place) (xs : List Part) → list_all (λ x. nat_eq x.edit n) xs ≡ true → list_any (λ x. has_pair x m a p) xs ≡ (nat_eq m n && list_any (has_for a p) xs)
pairs_of_edit n m a p [] h = none (nat_eq m n)
  where
    none : (b : Bool) → false ≡ (b && false)
    none true = refl
    none false = refl
pairs_of_edit n m a p (x ∷ xs) h =
    let both = and_parts (nat_eq x.edit n) (list_all (λ x. nat_eq x.edit n) xs) h in
    let e : nat_eq x.edit m ≡ nat_eq m n = ap (λ k. nat_eq k m) (eqb-true x.edit n both.0) ∙ number_same n m in
    (λ i. ((e i && nat_eq x.asset a) && has_place x p) || pairs_of_edit n m a p xs both.1 i)
    ∙ shape (nat_eq m n) (nat_eq x.asset a) (has_place x p) (list_any (has_for a p) xs)
  where
    shape : (e s h r : Bool) → (((e && s) && h) || (e && r)) ≡ (e && ((s && h) || r))
    shape true s h r = refl
    shape false s h r = refl

-- ---- whole

rows_in_order : (a j : ℕ) (s : LinkSide) (rows : List Span) → are_rows rows ≡ true → AreInOrder a j s rows
rows_in_order a j s rows h =
    let one = and_parts (list_all is_row rows && each_two span_before rows) (each_two are_apart rows) h in
    let two = and_parts (list_all is_row rows) (each_two span_before rows) one.0 in
    record { order = two.1; off = one.1; each = two.0 }

module _ (n : ℕ) (rows : List Span) (pieces : List Piece) (fewest : Rattle.lrs_element.specs.Course.IsFewest pieces) (ok : are_rows rows ≡ true) where
  whole_side : (a j : ℕ) (s : LinkSide) (d : Ground) → j + 1 < length (course_of pieces) → continues (get_or (course_of pieces) j d) (get_or (course_of pieces) (j + 1) d) ≡ true
      → are_on rows a j s ≡ true → are_on rows a (j + 1) s ≡ true → one_has (side_parts n rows s pieces) a (beside (get_or (course_of pieces) j d) s) (beside (get_or (course_of pieces) (j + 1) d) s) ≡ true
  whole_side a j s d within on h k =
      let found = any_found (covers a j) (runs_from s [] rows) (one_run a j s [] rows refl (rows_in_order a j s rows ok) h k) in
      let c = covered a j found.0 found.2 in
      let low = c.low in
      let high = c.high in
      any_given (λ part. has_for a (beside (get_or (course_of pieces) j d) s) part && has_for a (beside (get_or (course_of pieces) (j + 1) d) s) part) (λ run. parts_from n run s 0 pieces) found.0 (runs_from s [] rows) found.1
      (subst (λ b. one_has (parts_from n found.0 s 0 pieces) b (beside (get_or (course_of pieces) j d) s) (beside (get_or (course_of pieces) (j + 1) d) s) ≡ true) c.asset
      (in_pieces n found.0 s 0 j pieces d fewest.filled (fewest_unjoined pieces fewest) (omega (arith, low)) (omega (arith, high)) within on))

  whole_all : (a j : ℕ) (s : LinkSide) (d : Ground) → j + 1 < length (course_of pieces) → continues (get_or (course_of pieces) j d) (get_or (course_of pieces) (j + 1) d) ≡ true
      → are_on rows a j s ≡ true → are_on rows a (j + 1) s ≡ true → one_has (all_parts n rows pieces) a (beside (get_or (course_of pieces) j d) s) (beside (get_or (course_of pieces) (j + 1) d) s) ≡ true
  whole_all a j s d within on h k =
      list_any-append (λ part. has_for a (beside (get_or (course_of pieces) j d) s) part && has_for a (beside (get_or (course_of pieces) (j + 1) d) s) part) (side_parts n rows Left pieces) (side_parts n rows Right pieces)
      ∙ by s (whole_side a j s d within on h k)
    where
      by : (t : LinkSide) → one_has (side_parts n rows t pieces) a (beside (get_or (course_of pieces) j d) s) (beside (get_or (course_of pieces) (j + 1) d) s) ≡ true
          → (one_has (side_parts n rows Left pieces) a (beside (get_or (course_of pieces) j d) s) (beside (get_or (course_of pieces) (j + 1) d) s)
          || one_has (side_parts n rows Right pieces) a (beside (get_or (course_of pieces) j d) s) (beside (get_or (course_of pieces) (j + 1) d) s)) ≡ true
      by Left e = or_left _ _ e
      by Right e = or_right _ _ e

-- ---- the parts in order

module _ (n : ℕ) (rows : List Span) (course : List Ground) (made sorted : List Part) (cut : AreCut n rows course made) (same : IsPermutation made sorted) (ok : are_rows rows ≡ true) where
  kept : (T : Part → Bool) → ((asset : ℕ) (s : LinkSide) (q : Piece) (low high : ℕ) → In q cut.pieces → low < high → high ≤ piece_len q → T (part_between n asset s q low high) ≡ true) → list_all T sorted ≡ true
  kept T holds = all_moved T made sorted same (ap (list_all T) cut.cut ∙ every n cut.pieces T holds rows)

  pub edit_is : list_all (λ x. nat_eq x.edit n) sorted ≡ true
  edit_is = kept (λ x. nat_eq x.edit n) (λ asset s q low high m h k. eq-eqb n n refl)

  pub filled_are : list_all (λ x. nat_lt x.from x.to) sorted ≡ true
  filled_are = kept (λ x. nat_lt x.from x.to) (λ asset s q low high m h k. lt-ltb _ _ (rises q.forward q.from q.to low high h k))

  pub are_in_pieces : AreInPieces course sorted
  are_in_pieces = record {
    pieces = cut.pieces;
    fewest = cut.fewest;
    run_over = cut.run_over;
    within = kept (λ x. list_any (lies_in x) cut.pieces) (λ asset s q low high m h k.
        any_of (lies_in (part_between n asset s q low high)) q cut.pieces m
        (and_from _ _ (and_from _ _ (eq-eqb q.link q.link refl) (le-leb _ _ (above q.forward q.from q.to low high h k))) (le-leb _ _ (below q.forward q.from q.to low high h k))));
  }

  pub times_are : (a : ℕ) (p : Place) → times_had a p sorted ≡ times_in_rows course rows a p
  times_are a p =
      sum_by-IsPermutation (λ x. let k : ℕ = cond (has_for a p x) 1 0 in k) made sorted same
      ∙ ap (times_had a p) cut.cut
      ∙ all_counted n rows cut.pieces a p (upright_rows a 0 Left rows (and_parts (list_all is_row rows) (each_two span_before rows) (and_parts (list_all is_row rows && each_two span_before rows) (each_two are_apart rows) ok).0).0)
      ∙ ap (λ c. times_in_rows c rows a p) cut.run_over

  pub pairs_are : (m a : ℕ) (p : Place) → list_any (λ x. has_pair x m a p) sorted ≡ (nat_eq m n && holds_by_spans course rows a p)
  pairs_are m a p =
      pairs_of_edit n m a p sorted edit_is
      ∙ ap (λ b. nat_eq m n && b) (any_counted (has_for a p) sorted ∙ ap (nat_lt 0) (times_are a p) ∙ sym (are_had course rows a p))

  pub once_is : each_two differs course ≡ true → IsHadOnce sorted
  once_is once = λ a p. let e = times_are a p in let f = rows_once course rows a p once ok in omega (arith, e, f)

  pub order_is : AllAdjacentBelow (λ x y. part_before y x ≡ false) sorted (length sorted) → each_two differs course ≡ true → each_two part_before sorted ≡ true
  order_is order once = strictly sorted order filled_are (once_is once)

  pub whole_is : AreWhole course rows sorted
  whole_is = subst (λ c. AreWhole c rows sorted) cut.run_over (record {
    whole = λ a j s d within on h k.
        sym (list_any-IsPermutation (λ part. has_for a (beside (get_or (course_of cut.pieces) j d) s) part && has_for a (beside (get_or (course_of cut.pieces) (j + 1) d) s) part) made sorted same)
        ∙ ap (λ xs. one_has xs a (beside (get_or (course_of cut.pieces) j d) s) (beside (get_or (course_of cut.pieces) (j + 1) d) s)) cut.cut
        ∙ whole_all n rows cut.pieces cut.fewest ok a j s d within on h k;
  })

  pub shown_are : (a : ℕ) (p : Place) → list_any (has_for a p) sorted ≡ holds_by_spans course rows a p
  shown_are a p = any_counted (has_for a p) sorted ∙ ap (nat_lt 0) (times_are a p) ∙ sym (are_had course rows a p)

  pub fewest_is : each_two differs course ≡ true → NoneIsShorter course rows sorted
  fewest_is once others in' same =
      let e : course_of in'.pieces ≡ course = in'.run_over in
      no_fewer rows in'.pieces sorted others (ap (each_two differs) e ∙ once) (subst (λ c. AreWhole c rows sorted) (sym e) whole_is) filled_are (once_is once) in'.within
      (λ a p. shown_are a p ∙ ap (λ c. holds_by_spans c rows a p) (sym e)) (λ a p. same a p ∙ ap (λ c. holds_by_spans c rows a p) (sym e))
