-- What the rows of an inventory hold, and the stretches that they have of links.
use Rattle.std.proofs.Common.{◌≡◌, ℕ, zero, suc, ◌+◌, ◌-◌, ◌<◌, ◌≤◌, min, Bool, true, false, cond, Option, Some, None, ◌⊎◌, inl, inr, List, [], ◌∷◌, ◌++◌, length, get_or, refl, sym, ap, ◌∙◌, arith}
use Rattle.std.specs.Prelude.{◌||◌, ◌&&◌, nat_eq, nat_le, nat_lt}
use Rattle.std.specs.List.{cons_option, flat_map, list_any}
use Rattle.std.specs.Option.{option_map}
use Rattle.std.proofs.lemmas.Bool.{false≢true, and_from, and_parts, eq-eqb, eqb-true, leb-true, ltb-true, or_cases, or_left, or_right}
use Rattle.std.proofs.lemmas.List.Folds.{list_any-append}
use Rattle.lrs_element.specs.declared.link.Ground.{Ground}
use Rattle.lrs_element.specs.declared.link.Piece.{Piece}
use Rattle.lrs_element.specs.Course.{course_of, expand}
use Rattle.lrs_element.specs.Pieces.{ground_of, piece_len}
use Rattle.lrs_element.proofs.Expanding.{get_or-expand, length-expand}
use Rattle.lrs_events.specs.declared.side.LinkSide.{LinkSide}
use Rattle.lrs_events.specs.declared.side.LinkSide.TheVariants.{Left, Right}
use Rattle.lrs_events.specs.declared.span.Span.{Span}
use Rattle.lrs_events.specs.Members.{Picks, has_side, stands_for}
use Rattle.lrs_events.specs.Places.{Place, along_link, beside, same_link_side, same_place}
use Rattle.lrs_events.specs.Spans.{holds_by_span, holds_by_spans}
use Rattle.lrs_events.specs.Row.CourseMembers.{is_picked}
use Rattle.lrs_events.proofs.Row.Picked.{row_holds}
use Rattle.lrs_machine.specs.declared.image.RouteRow.{RouteRow}
use Rattle.lrs_machine.specs.Image.{holds_on, state_of}
use Rattle.lrs_report_lists.specs.declared.link_rows.LinkStretch.{LinkStretch}
use Rattle.lrs_report_lists.specs.CoursePieces.{pieces_of}
use Rattle.lrs_report_lists.specs.Laws.{has_mm}
use Rattle.lrs_report_lists.specs.LinkRows.{on_piece, stretch_between}
use Rattle.lrs_report_lists.specs.PlacedPieces.{placed_from}
use Rattle.lrs_report_lists.proofs.CoursePieces.{pieces_make}
use Rattle.lrs_report_lists.proofs.LinkLines.{rows_hold_same, sides_seen}
use Rattle.lrs_difference.specs.Held.{StretchesAreHeld, held_by_row, held_on, held_on_piece, holds_place}

-- ---- Bool

or_assoc : (a b c : Bool) → ((a || b) || c) ≡ (a || (b || c))
or_assoc true b c = refl
or_assoc false b c = refl

just : (b : Bool) → (b || false) ≡ true → b ≡ true
just true h = refl
just false h = h

both_imply : (b c : Bool) → (b ≡ true → c ≡ true) → (c ≡ true → b ≡ true) → b ≡ c
both_imply true c h k = sym (h refl)
both_imply false true h k = absurd (false≢true (k refl))
both_imply false false h k = refl

one_side : (s t : LinkSide) → same_link_side s t ≡ true → s ≡ t
one_side Left Left h = refl
one_side Left Right h = absurd (false≢true h)
one_side Right Left h = absurd (false≢true h)
one_side Right Right h = refl

side_itself : (s : LinkSide) → same_link_side s s ≡ true
side_itself Left = refl
side_itself Right = refl

twice : (f : Bool) (s : LinkSide) → along_link f (along_link f s) ≡ s
twice true s = refl
twice false Left = refl
twice false Right = refl

-- ---- what is picked of a course

picked-append : (m : Picks) (j : ℕ) (c d : List Ground) (p : Place) → is_picked m j (c ++ d) p ≡ (is_picked m j c p || is_picked m (j + length c) d p)
picked-append m j [] d p = ap (λ k. is_picked m k d p) (omega arith)
picked-append m j (g ∷ gs) d p =
    let l = m j Left && same_place p (beside g Left) in
    let r = m j Right && same_place p (beside g Right) in
    ap (λ t. l || (r || t)) (picked-append m (j + 1) gs d p ∙ ap (λ k. is_picked m (j + 1) gs p || is_picked m k d p) (omega arith))
    ∙ ap (λ t. l || t) (sym (or_assoc r (is_picked m (j + 1) gs p) (is_picked m (j + length (g ∷ gs)) d p)))
    ∙ sym (or_assoc l (r || is_picked m (j + 1) gs p) (is_picked m (j + length (g ∷ gs)) d p))

-- an entry that is picked
record Picked (m : Picks) (j : ℕ) (c : List Ground) (p : Place) (d : Ground) : Type 0 where
  pub at : ℕ
  pub side : LinkSide
  pub within : at < length c
  pub picks : m (j + at) side ≡ true
  pub place : same_place p (beside (get_or c at d) side) ≡ true

picked_found : (m : Picks) (j : ℕ) (c : List Ground) (p : Place) (d : Ground) → is_picked m j c p ≡ true → Picked m j c p d
picked_found m j [] p d h = absurd (false≢true h)
picked_found m j (g ∷ gs) p d h = by (or_cases (m j Left && same_place p (beside g Left)) ((m j Right && same_place p (beside g Right)) || is_picked m (j + 1) gs p) h) (picked_found m (j + 1) gs p d)
  where
    here : (s : LinkSide) → (m j s && same_place p (beside g s)) ≡ true → Picked m j (g ∷ gs) p d
    here s e =
        let a = and_parts (m j s) (same_place p (beside g s)) e in
        let n : j + zero ≡ j = omega arith in
        record { at = zero; side = s; within = omega arith; picks = ap (λ k. m k s) n ∙ a.0; place = a.1 }

    next : Picked m (j + 1) gs p d → Picked m j (g ∷ gs) p d
    next f =
        let n : j + suc f.at ≡ (j + 1) + f.at = omega arith in
        let w = f.within in
        record { at = suc f.at; side = f.side; within = omega (arith, w); picks = ap (λ k. m k f.side) n ∙ f.picks; place = f.place }

    later : ((m j Right && same_place p (beside g Right)) ≡ true) ⊎ (is_picked m (j + 1) gs p ≡ true) → (is_picked m (j + 1) gs p ≡ true → Picked m (j + 1) gs p d) → Picked m j (g ∷ gs) p d
    later (inl e) rest = here Right e
    later (inr e) rest = next (rest e)

    by : ((m j Left && same_place p (beside g Left)) ≡ true) ⊎ (((m j Right && same_place p (beside g Right)) || is_picked m (j + 1) gs p) ≡ true) → (is_picked m (j + 1) gs p ≡ true → Picked m (j + 1) gs p d) → Picked m j (g ∷ gs) p d
    by (inl e) rest = here Left e
    by (inr e) rest = later (or_cases (m j Right && same_place p (beside g Right)) (is_picked m (j + 1) gs p) e) rest

picked_of : (m : Picks) (j : ℕ) (c : List Ground) (p : Place) (d : Ground) (at : ℕ) (s : LinkSide) → at < length c → m (j + at) s ≡ true → same_place p (beside (get_or c at d) s) ≡ true → is_picked m j c p ≡ true
picked_of m j [] p d at s within picks place = absurd (omega (arith, within))
picked_of m j (g ∷ gs) p d zero s within picks place = on s (and_from (m j s) (same_place p (beside g s)) (ap (λ k. m k s) (omega arith) ∙ picks) place)
  where
    on : (t : LinkSide) → (m j t && same_place p (beside g t)) ≡ true → is_picked m j (g ∷ gs) p ≡ true
    on Left e = or_left _ _ e
    on Right e = or_right _ _ (or_left _ _ e)
picked_of m j (g ∷ gs) p d (suc at) s within picks place =
    let n : (j + 1) + at ≡ j + suc at = omega arith in
    or_right _ _ (or_right _ _ (picked_of m (j + 1) gs p d at s (omega (arith, within)) (ap (λ k. m k s) n ∙ picks) place))

-- ---- a row on a piece

record Inside (f : Bool) (a b m : ℕ) : Type 0 where
  pub at : ℕ
  pub within : at < b - a
  pub is : cond f (a + at) (b - 1 - at) ≡ m

inside : (f : Bool) (a b m low high : ℕ) → low < high → high ≤ b - a → cond f (a + low) (b - high) ≤ m → m < cond f (a + high) (b - low) → Inside f a b m
inside true a b m low high some fits from to = record { at = m - a; within = omega (arith, some, fits, from, to); is = omega (arith, some, fits, from, to) }
inside false a b m low high some fits from to = record { at = b - 1 - m; within = omega (arith, some, fits, from, to); is = omega (arith, some, fits, from, to) }

module _ (r : Span) (asset : ℕ) (p : Place) where
  abbrev told : Option LinkStretch → Bool
  told o = list_any (holds_place asset p) (cons_option (option_map (λ s. record { asset = r.asset; stretch = s }) o) [])

  module _ (start : ℕ) (q : Piece) where
    abbrev low : ℕ
    low = r.from - start

    abbrev high : ℕ
    high = min (r.to - start) (piece_len q)

    abbrev part : LinkStretch
    part = stretch_between r.side q low high

    picked_told : is_picked (stands_for r asset) start (expand q) p ≡ true → told (on_piece r start q) ≡ true
    picked_told h = by (nat_lt low high) refl
      where
        f : Picked (stands_for r asset) start (expand q) p (ground_of q 0)
        f = picked_found (stands_for r asset) start (expand q) p (ground_of q 0) h

        within : f.at < piece_len q
        within = let w = f.within in omega (arith, w, length-expand q)

        mine : (nat_eq r.asset asset ≡ true) × (((nat_le r.from (start + f.at) && nat_lt (start + f.at) r.to) && has_side r.side f.side) ≡ true)
        mine = and_parts _ _ f.picks

        over : ((nat_le r.from (start + f.at) && nat_lt (start + f.at) r.to) ≡ true) × (has_side r.side f.side ≡ true)
        over = and_parts _ _ mine.1

        there : same_place p (beside (ground_of q f.at) f.side) ≡ true
        there = ap (λ g. same_place p (beside g f.side)) (sym (get_or-expand q f.at (ground_of q 0) within)) ∙ f.place

        on : ((nat_eq p.link q.link && nat_eq p.mm (ground_of q f.at).mm) ≡ true) × (same_link_side p.side (along_link q.forward f.side) ≡ true)
        on = and_parts _ _ there

        at_link : (nat_eq p.link q.link ≡ true) × (nat_eq p.mm (ground_of q f.at).mm ≡ true)
        at_link = and_parts _ _ on.0

        by : (b : Bool) → nat_lt low high ≡ b → told (cond b (Some part) None) ≡ true
        by false is = absurd (false≢true (ap (λ b. has_mm (cond b (Some part) None) (ground_of q f.at).mm) (sym is) ∙ rows_hold_same r start q f.at within ∙ over.0))
        by true is =
            let has : (nat_le part.from (ground_of q f.at).mm && nat_lt (ground_of q f.at).mm part.to) ≡ true = ap (λ b. has_mm (cond b (Some part) None) (ground_of q f.at).mm) (sym is) ∙ rows_hold_same r start q f.at within ∙ over.0 in
            let mm = eqb-true p.mm (ground_of q f.at).mm at_link.1 in
            let side = one_side p.side (along_link q.forward f.side) on.1 in
            or_left _ _
            (and_from _ _ mine.0
            (and_from _ _
            (and_from _ _ (eq-eqb q.link p.link (sym (eqb-true p.link q.link at_link.0)))
            (ap (λ m. nat_le part.from m && nat_lt m part.to) mm ∙ has))
            (ap (has_side part.side) side ∙ sides_seen q.forward r.side f.side ∙ over.1)))

    told_picked : told (on_piece r start q) ≡ true → is_picked (stands_for r asset) start (expand q) p ≡ true
    told_picked h = by (nat_lt low high) refl h
      where
        by : (b : Bool) → nat_lt low high ≡ b → told (cond b (Some part) None) ≡ true → is_picked (stands_for r asset) start (expand q) p ≡ true
        by false is k = absurd (false≢true k)
        by true is k =
            let fits : high ≤ q.to - q.from = omega arith in
            let mine = and_parts _ _ (just _ k) in
            let one = and_parts _ _ mine.1 in
            let two = and_parts _ _ one.0 in
            let bounds = and_parts _ _ two.1 in
            let i = inside q.forward q.from q.to p.mm low high (ltb-true low high is) fits (leb-true _ _ bounds.0) (ltb-true _ _ bounds.1) in
            let side = along_link q.forward p.side in
            let has : (nat_le r.from (start + i.at) && nat_lt (start + i.at) r.to) ≡ true =
            sym (rows_hold_same r start q i.at i.within) ∙ ap (λ b. has_mm (cond b (Some part) None) (ground_of q i.at).mm) is ∙ ap (λ m. nat_le part.from m && nat_lt m part.to) i.is ∙ two.1 in
            let sided : has_side r.side side ≡ true = sym (sides_seen q.forward r.side side) ∙ ap (has_side part.side) (twice q.forward p.side) ∙ one.1 in
            let w = i.within in
            picked_of (stands_for r asset) start (expand q) p (ground_of q 0) i.at side (omega (arith, w, length-expand q))
            (and_from _ _ mine.0 (and_from _ _ has sided))
            (ap (λ g. same_place p (beside g side)) (get_or-expand q i.at (ground_of q 0) i.within)
            ∙ and_from _ _ (and_from _ _ (eq-eqb p.link q.link (sym (eqb-true q.link p.link two.0))) (eq-eqb p.mm _ (sym i.is)))
            (ap (same_link_side p.side) (twice q.forward p.side) ∙ side_itself p.side))

    on_one : is_picked (stands_for r asset) start (expand q) p ≡ list_any (holds_place asset p) (held_on_piece r (start, q))
    on_one = both_imply _ _ picked_told told_picked

  on_all : (start : ℕ) (qs : List Piece) → is_picked (stands_for r asset) start (course_of qs) p ≡ list_any (holds_place asset p) (flat_map (held_on_piece r) (placed_from start qs))
  on_all start [] = refl
  on_all start (q ∷ qs) =
      picked-append (stands_for r asset) start (expand q) (course_of qs) p
      ∙ ap (λ n. is_picked (stands_for r asset) start (expand q) p || is_picked (stands_for r asset) (start + n) (course_of qs) p) (length-expand q)
      ∙ (λ i. on_one start q i || on_all (start + piece_len q) qs i)
      ∙ sym (list_any-append (holds_place asset p) (held_on_piece r (start, q)) (flat_map (held_on_piece r) (placed_from (start + piece_len q) qs)))

  by_row : (course : List Ground) → holds_by_span course r asset p ≡ list_any (holds_place asset p) (held_by_row course r)
  by_row course =
      row_holds course r asset p
      ∙ ap (λ c. is_picked (stands_for r asset) 0 c p) (sym (pieces_make course).0)
      ∙ on_all 0 (pieces_of course)

-- ---- all rows

module _ (asset : ℕ) (p : Place) where
  by_rows : (course : List Ground) (rows : List Span) → holds_by_spans course rows asset p ≡ list_any (holds_place asset p) (flat_map (held_by_row course) rows)
  by_rows course [] = refl
  by_rows course (r ∷ rs) = (λ i. by_row r asset p course i || by_rows course rs i) ∙ sym (list_any-append (holds_place asset p) (held_by_row course r) (flat_map (held_by_row course) rs))

  by_routes : (routes : List RouteRow) → list_any (λ e. holds_on e asset p) routes ≡ list_any (holds_place asset p) (flat_map held_on routes)
  by_routes [] = refl
  by_routes (e ∷ es) = (λ i. by_rows e.route.course e.spans i || by_routes es i) ∙ sym (list_any-append (holds_place asset p) (held_on e) (flat_map held_on es))

pub are_held : StretchesAreHeld
unfolding state_of
are_held i asset p = by_routes asset p i.routes
