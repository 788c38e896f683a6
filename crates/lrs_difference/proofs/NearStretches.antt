-- Of stretches in order, those of the asset and link of an edge that begin up to it tell what is held there.
use Rattle.std.proofs.Common.{◌≡◌, ℕ, zero, suc, ◌<◌, ◌≤◌, true, false, Bool, ◌⊎◌, inl, inr, List, [], ◌∷◌, ◌++◌, get_or, length, take, drop, Result, Ok, Err, IfOk, refl, sym, ap, subst, ◌∙◌, arith}
use Rattle.std.specs.Prelude.{◌||◌, ◌&&◌, not, nat_eq, slice_range}
use Rattle.std.specs.List.{list_any}
use Rattle.std.specs.List.Sorted.{IsPartitionPoint, IsPartitionedBy, IsPermutation, IsSortedBy}
use Rattle.std.specs.Cmp.{IsStrictWeakOrder}
use Rattle.std.specs.Cmp.Lexicographic.{nat_list_cmp_total}
use Rattle.std.proofs.lemmas.Bool.{and_left, and_parts, both_ways, eqb-true, false_from_ne_true, not-true}
use Rattle.std.proofs.lemmas.List.{take-append-drop}
use Rattle.std.proofs.lemmas.List.Folds.{list_any-append}
use Rattle.std.proofs.lemmas.List.Sorted.{list_any-IsPermutation, ranks_by, sorted_far}
use Rattle.lrs_measure.specs.Lists.{In}
use Rattle.lrs_measure.specs.Texts.{Name, name_before}
use Rattle.lrs_measure.proofs.Members.{In-append_cases}
use Rattle.lrs_measure.proofs.Places.{all_first, all_last, in_three}
use Rattle.lrs_events.specs.declared.side.LinkSide.{LinkSide}
use Rattle.lrs_events.specs.declared.side.LinkSide.TheVariants.{Left, Right}
use Rattle.lrs_events.specs.Canonical.{side_of}
use Rattle.lrs_events.proofs.Row.Rows.{NameCases, before, behind, name_cases, name_trans, same}
use Rattle.lrs_difference.specs.declared.link_stretches.HeldStretch.{HeldStretch}
use Rattle.lrs_difference.specs.declared.sweep.Edge.{Edge}
use Rattle.lrs_difference.specs.Held.{holds_place}
use Rattle.lrs_difference.specs.Sweep.{AreAlone, AreNear, at_edge, edge_key, is_ahead, is_begun, line_key, side_alone, start_key, starts_before}
use Rattle.lrs_difference.proofs.Swept.{Before, before_end, before_from, by_asset, by_link, by_mm, held_by_keys, not_from}

pub start_ranks : IsStrictWeakOrder starts_before
start_ranks = ranks_by nat_list_cmp_total (λ (h : HeldStretch). start_key h)

-- ---- the two fronts

-- what no other stands before is before all that the other is before
before_too : (x y z : Name) → name_before y x ≡ false → name_before y z ≡ true → name_before x z ≡ true
before_too x y z n h = by (name_cases x y)
  where
    by : NameCases x y → name_before x z ≡ true
    by (before e) = name_trans x y z e h
    by (same e) = subst (λ (w : Name). name_before w z ≡ true) (sym e) h
    by (behind e) = absurd (both_ways (name_before y x) n e)

module _ (e : Edge) (held : List HeldStretch) (order : IsSortedBy starts_before held) where
  rises : (i j : ℕ) (d : HeldStretch) → i ≤ j → j < length held → name_before (start_key (get_or held j d)) (start_key (get_or held i d)) ≡ false
  rises = sorted_far starts_before start_ranks held order

  pub parted_ahead : IsPartitionedBy (is_ahead e) held
  parted_ahead i j d le within passes = before_too (start_key (get_or held i d)) (start_key (get_or held j d)) (line_key e) (rises i j d le within) passes

  pub parted_begun : IsPartitionedBy (is_begun e) held
  parted_begun i j d le within passes =
      let low = start_key (get_or held i d) in
      let high = start_key (get_or held j d) in
      not_from (name_before (edge_key e) low) (false_from_ne_true (name_before (edge_key e) low) (λ k.
      both_ways (name_before (edge_key e) high) (not-true (name_before (edge_key e) high) passes) (before_end (edge_key e) low high k (rises i j d le within))))

-- ---- what is outside

ahead_off : (e : Edge) (h : HeldStretch) (side : LinkSide) → is_ahead e h ≡ true → holds_place e.asset (at_edge e side) h ≡ false
ahead_off e h side ahead = false_from_ne_true (holds_place e.asset (at_edge e side) h) (λ k.
    let both = and_parts (nat_eq h.asset e.asset) _ k in
    let place = and_parts (nat_eq h.stretch.link e.link && _) _ both.1 in
    let line = and_parts (nat_eq h.stretch.link e.link) _ place.0 in
    by (eqb-true h.asset e.asset both.0) (eqb-true h.stretch.link e.link line.0) (before_from h.asset h.stretch.link h.stretch.from e.asset e.link 0 ahead))
  where
    by : h.asset ≡ e.asset → h.stretch.link ≡ e.link → Before h.asset h.stretch.link h.stretch.from e.asset e.link 0 → ⊥
    by a l (by_asset k) = omega (arith, a, k)
    by a l (by_link i k) = omega (arith, l, k)
    by a l (by_mm i j k) = omega (arith, k)

begun_off : (e : Edge) (h : HeldStretch) (side : LinkSide) → is_begun e h ≡ false → holds_place e.asset (at_edge e side) h ≡ false
begun_off e h side off = held_by_keys h e.asset (at_edge e side) ∙ and_left _ _ (and_left _ _ off)

-- ---- what is between

none_in : {X : Type 0} (p : X → Bool) (xs : List X) → ((x : X) → In x xs → p x ≡ false) → list_any p xs ≡ false
none_in p [] h = refl
none_in p (x ∷ xs) h = λ i. h x (inl refl) i || none_in p xs (λ y m. h y (inr m)) i

or_nothing : (b : Bool) → (b || false) ≡ b
or_nothing true = refl
or_nothing false = refl

farther : {X : Type 0} (x : X) (xs : List X) (a b : ℕ) → a ≤ b → In x (drop b xs) → In x (drop a xs)
farther x [] zero zero h m = m
farther x [] zero (suc b) h m = m
farther x [] (suc a) zero h m = m
farther x [] (suc a) (suc b) h m = m
farther x (y ∷ ys) zero zero h m = m
farther x (y ∷ ys) zero (suc b) h m = inr (farther x ys zero b (omega arith) m)
farther x (y ∷ ys) (suc a) zero h m = absurd (omega (arith, h))
farther x (y ∷ ys) (suc a) (suc b) h m = farther x ys a b (omega (arith, h)) m

module _ (e : Edge) (held : List HeldStretch) (start end : ℕ)
    (p : IsPartitionPoint (λ h. is_ahead e h ≡ true) (λ h. is_ahead e h ≡ false) held start)
    (q : IsPartitionPoint (λ h. is_begun e h ≡ true) (λ h. is_begun e h ≡ false) held end) where
  front_off : (side : LinkSide) (h : HeldStretch) → In h (take start held) → holds_place e.asset (at_edge e side) h ≡ false
  front_off side h m = ahead_off e h side (all_first (λ s. is_ahead e s ≡ true) held start p.0 h m)

  rear_off : (side : LinkSide) (h : HeldStretch) → In h (drop end held) → holds_place e.asset (at_edge e side) h ≡ false
  rear_off side h m = begun_off e h side (all_last (λ s. is_begun e s ≡ false) held end q.1 h m)

  pub near_slice : start < end → AreNear e held (slice_range held start end)
  near_slice l side =
      let has = holds_place e.asset (at_edge e side) in
      let mid = slice_range held start end in
      sym (ap (list_any has) (in_three held start end (omega (arith, l))) ∙ list_any-append has (take start held) (mid ++ drop end held)
      ∙ (λ i. none_in has (take start held) (front_off side) i || list_any has (mid ++ drop end held))
      ∙ list_any-append has mid (drop end held)
      ∙ (λ i. list_any has mid || none_in has (drop end held) (rear_off side) i) ∙ or_nothing (list_any has mid))

  -- none is near where those that begin come up to those ahead
  pub near_nothing : end ≤ start → AreNear e held []
  near_nothing l side = sym (none_in (holds_place e.asset (at_edge e side)) held (λ h m. by h (In-append_cases h (take start held) (drop start held) (subst (In h) (sym (take-append-drop start held)) m))))
    where
      by : (h : HeldStretch) → In h (take start held) ⊎ In h (drop start held) → holds_place e.asset (at_edge e side) h ≡ false
      by h (inl m) = front_off side h m
      by h (inr m) = rear_off side h (farther h held end start l m)

-- ---- what is alone

pub alone_by_near : (e : Edge) (left right near_left near_right : List HeldStretch) → AreNear e left near_left → AreNear e right near_right → side_alone near_left near_right e ≡ side_alone left right e
alone_by_near e left right near_left near_right l r = λ i. side_of (l Left i && not (r Left i)) (l Right i && not (r Right i))

pub alone_of_sorted : (left right one other rows : List HeldStretch) → IsPermutation left one → IsPermutation right other → AreAlone one other rows → AreAlone left right rows
alone_of_sorted left right one other rows l r h = record {
  filled = h.filled;
  order = h.order;
  apart = h.apart;
  places = λ asset p. h.places asset p ∙ (λ i. sym (list_any-IsPermutation (holds_place asset p) left one l) i && not (sym (list_any-IsPermutation (holds_place asset p) right other r) i));
}

pub if_ok : {A E : Type 0} {P Q : A → Type 0} (r : Result A E) → ((x : A) → P x → Q x) → IfOk r P → IfOk r Q
if_ok (Ok x) h k = h x k
if_ok (Err e) h k = k
