-- Parts stand in the place of the rows that a test finds.
use Rattle.std.proofs.Common.{◌≡◌, Bool, true, false, cond, ◌⊎◌, inl, inr, List, [], ◌∷◌, refl, sym, ap, subst, ◌∙◌, arith}
use Rattle.std.specs.Prelude.{◌||◌, ◌&&◌}
use Rattle.std.specs.List.{list_any, list_all, filter, flat_map}
use Rattle.std.proofs.lemmas.Bool.{both_ways, cases_Bool, and_parts, and_from}
use Rattle.lrs_measure.specs.Lists.{In, each_two}
use Rattle.lrs_measure.proofs.Members.{all_at, all_of, In-filter, filter-In, In-flat_map}
use Rattle.lrs_measure.proofs.Filters.{each_two-filter}
use Rattle.lrs_events.specs.declared.change.SpanChange.{SpanChange}
use Rattle.lrs_events.specs.declared.span.Span.{Span}
use Rattle.lrs_events.specs.Spans.{are_rows, is_row, span_before, are_apart}
use Rattle.lrs_events.specs.Changes.{changed, changed_rows, has_row}
use Rattle.lrs_events.specs.Row.Changes.{IsChange, missing}
use Rattle.lrs_events.proofs.Row.Rows.{IsAhead, Pairs, AreRows, left_place, rows_are}
use Rattle.lrs_events.proofs.Row.Pieces.{IsPiece, ArePieces, piece_itself, found_in, pieces_rows}
use Rattle.lrs_events.proofs.Row.Differing.{has_found, has_in, in_missing, missing_in}
use Rattle.lrs_events.proofs.Row.Changing.{rows_sorted, changed_is}

module _ {X : Type 0} where
  -- where a test finds each that passes another, that other tells the same of those found
  pub any_filter : (p test : X → Bool) (xs : List X) → ((x : X) → In x xs → p x ≡ true → test x ≡ true) → list_any p (filter test xs) ≡ list_any p xs
  any_filter p test [] h = refl
  any_filter p test (y ∷ ys) h = by (test y) (p y) refl refl (any_filter p test ys (λ x m. h x (inr m)))
    where
      by : (t b : Bool) → t ≡ test y → b ≡ p y → list_any p (filter test ys) ≡ list_any p ys → list_any p (cond t (y ∷ filter test ys) (filter test ys)) ≡ (p y || list_any p ys)
      by true b e f k = λ i. p y || k i
      by false true e f k = absurd (both_ways (test y) (sym e) (h y (inl refl) (sym f)))
      by false false e f k = k ∙ (λ i. f i || list_any p ys)

-- rows that a test finds are canonical rows
pub found_rows : (test : Span → Bool) (rows : List Span) → are_rows rows ≡ true → are_rows (filter test rows) ≡ true
found_rows test rows h =
    let a = and_parts (list_all is_row rows && each_two span_before rows) (each_two are_apart rows) h in
    let b = and_parts (list_all is_row rows) (each_two span_before rows) a.0 in
    let full = all_of is_row (filter test rows) (λ r m. all_at is_row r rows b.0 (In-filter test r rows m).0) in
    let sorted = each_two-filter span_before test rows b.1 in
    and_from (list_all is_row (filter test rows) && each_two span_before (filter test rows)) (each_two are_apart (filter test rows))
    (and_from (list_all is_row (filter test rows)) (each_two span_before (filter test rows)) full sorted) (each_two-filter are_apart test rows a.1)

-- of two of them one stands in front of the other
pub pairs_two : (rows : List Span) → Pairs rows → (x y : Span) → In x rows → In y rows → (x ≡ y) ⊎ (IsAhead x y ⊎ IsAhead y x)
pairs_two [] p x y m n = absurd m
pairs_two (r ∷ rs) p x y (inl e) (inl f) = inl (e ∙ sym f)
pairs_two (r ∷ rs) p x y (inl e) (inr n) = inr (inl (subst (λ w. IsAhead w y) (sym e) (p.0 y n)))
pairs_two (r ∷ rs) p x y (inr m) (inl f) = inr (inr (subst (λ w. IsAhead w x) (sym f) (p.0 x m)))
pairs_two (r ∷ rs) p x y (inr m) (inr n) = pairs_two rs p.1 x y m n

-- no row is a part of another
pub not_piece : (r p : Span) → IsPiece 0 r p → IsAhead r p ⊎ IsAhead p r → ⊥
not_piece r p i (inl a) = let l = left_place r p a.left (sym i.of_class) (sym i.of_asset) in let u = i.some in let v = i.high in omega (arith, l, u, v)
not_piece r p i (inr a) = let l = left_place p r a.left i.of_class i.of_asset in let u = i.some in let v = i.low in omega (arith, l, u, v)

-- the parts of a row that is found, or the row
abbrev pub instead : (Span → Bool) → (Span → List Span) → Span → List Span
instead test f r = cond (test r) (f r) (r ∷ [])

module _ (test : Span → Bool) (f : Span → List Span) (rows : List Span) (h : AreRows rows) (k : (r : Span) → In r rows → ArePieces 0 r (f r)) where
  abbrev new : List Span
  new = flat_map (instead test f) rows

  abbrev found : List Span
  found = filter test rows

  abbrev put : List Span
  put = flat_map f found

  instead_pieces : (r : Span) → In r rows → ArePieces 0 r (instead test f r)
  instead_pieces r m = by (test r)
    where
      one : (p : Span) → In p (r ∷ []) → IsPiece 0 r p
      one p (inl e) = subst (IsPiece 0 r) (sym e) (piece_itself r (h.full r m))
      one p (inr n) = absurd n

      by : (b : Bool) → ArePieces 0 r (cond b (f r) (r ∷ []))
      by true = k r m
      by false = record { each = one; pairs = (λ s n. absurd n, tt) }

  new_rows : AreRows new
  new_rows = pieces_rows 0 (instead test f) rows h instead_pieces

  put_new : (x : Span) → In x put → In x new
  put_new x m =
      let g = found_in f x found m in
      let q = In-filter test g.0 rows g.1 in
      In-flat_map (instead test f) g.0 x rows q.0 (subst (λ b. In x (cond b (f g.0) (g.0 ∷ []))) (sym q.1) g.2)

  other_new : (x : Span) → In x rows → test x ≡ false → In x new
  other_new x m e = In-flat_map (instead test f) x x rows m (subst (λ b. In x (cond b (f x) (x ∷ []))) (sym e) (inl refl))

  fresh_put : (x : Span) → In x put → In x rows → In x found
  fresh_put x m n =
      let g = found_in f x found m in
      let q = In-filter test g.0 rows g.1 in
      by g.0 g.1 ((k g.0 q.0).each x g.2) (pairs_two rows h.pairs g.0 x q.0 n)
    where
      by : (r : Span) → In r found → IsPiece 0 r x → (r ≡ x) ⊎ (IsAhead r x ⊎ IsAhead x r) → In x found
      by r o i (inl e) = subst (λ w. In w found) e o
      by r o i (inr a) = absurd (not_piece r x i a)

  replaced_change : IsChange rows (missing put found) (missing found put) new
  replaced_change = record {
    rows = λ x. (λ m. let g = found_in (instead test f) x rows m in forth x g.0 (test g.0) refl g.1 g.2, λ m. back x m);
    were = λ x m. (In-filter test x rows (in_missing put found x m).0).0;
    fresh = λ x m n. let q = in_missing found put x m in q.1 (fresh_put x q.0 n);
  }
    where
      in_put : (x : Span) → In x put → (has_row found x ≡ true) ⊎ (has_row found x ≡ false) → (In x rows × (In x (missing put found) → ⊥)) ⊎ In x (missing found put)
      in_put x m (inl e) = inl ((In-filter test x rows (has_found found x e)).0, λ n. (in_missing put found x n).1 m)
      in_put x m (inr e) = inr (missing_in found put x m (λ n. both_ways (has_row found x) e (has_in found x n)))

      forth : (x r : Span) (b : Bool) → b ≡ test r → In r rows → In x (cond b (f r) (r ∷ [])) → (In x rows × (In x (missing put found) → ⊥)) ⊎ In x (missing found put)
      forth x r true e o m = in_put x (In-flat_map f r x found (filter-In test r rows o (sym e)) m) (cases_Bool (has_row found x))
      forth x r false e o (inl q) = inl (subst (λ w. In w rows) (sym q) o, λ n. both_ways (test r) (sym e) (sym (ap test q) ∙ (In-filter test x rows (in_missing put found x n).0).1))
      forth x r false e o (inr q) = absurd q

      stays : (x : Span) → In x rows → (In x (missing put found) → ⊥) → test x ≡ true → (has_row put x ≡ true) ⊎ (has_row put x ≡ false) → In x new
      stays x o n t (inl e) = put_new x (has_found put x e)
      stays x o n t (inr e) = absurd (n (missing_in put found x (filter-In test x rows o t) (λ q. both_ways (has_row put x) e (has_in put x q))))

      one : (x : Span) → In x rows → (In x (missing put found) → ⊥) → (test x ≡ true) ⊎ (test x ≡ false) → In x new
      one x o n (inl t) = stays x o n t (cases_Bool (has_row put x))
      one x o n (inr t) = other_new x o t

      back : (x : Span) → (In x rows × (In x (missing put found) → ⊥)) ⊎ In x (missing found put) → In x new
      back x (inl m) = one x m.0 m.1 (cases_Bool (test x))
      back x (inr m) = put_new x (in_missing found put x m).0

  -- the difference between the rows that were found and their parts makes the rows with those parts
  replaced : are_rows put ≡ true → changed span_before (missing put found) (missing found put) rows ≡ new
  replaced p = changed_is rows (missing put found) (missing found put) new (rows_are rows h) (rows_are new new_rows) (each_two-filter span_before _ put (rows_sorted put p)) replaced_change

  -- the change to the parts makes canonical rows
  pub record IsReplaced (change : SpanChange) : Type 0 where
    pub made : changed_rows change rows ≡ new
    pub kept : are_rows (changed_rows change rows) ≡ true
    pub differs : IsChange rows change.gone.items change.come.items (changed_rows change rows)

  pub is_replaced : (some part : List Span) (change : SpanChange) → some ≡ found → part ≡ flat_map f some → are_rows part ≡ true
      → change.gone.items ≡ missing part some → change.come.items ≡ missing some part → IsReplaced change
  is_replaced some part change e p o g c = record {
    made = made;
    kept = subst (λ (z : List Span). are_rows z ≡ true) (sym made) (rows_are new new_rows);
    differs = subst (IsChange rows change.gone.items change.come.items) (sym made)
        (subst (λ (z : List Span). IsChange rows z change.come.items new) (sym gone)
        (subst (λ (z : List Span). IsChange rows (missing put found) z new) (sym come) replaced_change));
  }
    where
      part_is : part ≡ put
      part_is = p ∙ (λ i. flat_map f (e i))

      gone : change.gone.items ≡ missing put found
      gone = g ∙ (λ i. missing (part_is i) (e i))

      come : change.come.items ≡ missing found put
      come = c ∙ (λ i. missing (e i) (part_is i))

      made : changed_rows change rows ≡ new
      made = (λ i. changed span_before (gone i) (come i) rows) ∙ replaced (subst (λ (z : List Span). are_rows z ≡ true) part_is o)
