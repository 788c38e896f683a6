-- What rows hold on a course of which a stretch is replaced by other ground, and what they held of the stretch.
use Rattle.std.proofs.Common.{◌≡◌, ℕ, ◌+◌, ◌-◌, ◌<◌, ◌≤◌, Bool, true, false, ◌⊎◌, inl, inr, List, [], ◌∷◌, ◌++◌, take, drop, length, refl, sym, ap, ◌∙◌, arith, length-append}
use Rattle.std.specs.Prelude.{◌||◌, ◌&&◌, not, nat_lt, nat_le, nat_eq, slice_range}
use Rattle.std.proofs.lemmas.Bool.{both_ways, and_parts, and_from, or_left, or_right, or_cases, cases_Bool, eqb-true, eq-eqb, lt-ltb, le-ltb, lt-leb, le-leb}
use Rattle.std.proofs.lemmas.List.{take-append-drop, length-take-le, length-drop}
use Rattle.std.proofs.lemmas.List.Folds.{list_any-append, drop_split}
use Rattle.lrs_measure.specs.Lists.{each_two}
use Rattle.lrs_element.specs.declared.link.Ground.{Ground}
use Rattle.lrs_element.specs.Course.{is_at}
use Rattle.lrs_position.proofs.Index.Pieces.{across, behind}
use Rattle.lrs_events.specs.declared.side.LinkSide.{LinkSide}
use Rattle.lrs_events.specs.declared.side.LinkSide.TheVariants.{Left, Right}
use Rattle.lrs_events.specs.declared.span.Span.{Span}
use Rattle.lrs_events.specs.Members.{Picks, is_member}
use Rattle.lrs_events.specs.Places.{Place, differs, same_place, beside, lies_on}
use Rattle.lrs_events.specs.Spans.{holds_by_spans}
use Rattle.lrs_events.specs.Row.CourseMembers.{is_held, is_picked}
use Rattle.lrs_events.specs.Row.Removals.{is_within, IsThat}
use Rattle.lrs_events.proofs.Row.Picked.{picked-none, rows_hold}
use Rattle.lrs_events.specs.RouteSpans.Realignment.{IsRealigned}
use Rattle.lrs_image_laws.proofs.InOrder.{is_false}
use Rattle.lrs_image_laws.proofs.Parted.{held_member, held_alike, held_same, picked-within, picked-append, picked-shift}
use Rattle.lrs_image_laws.specs.Realignments.{replaced}

-- what is picked of a course lies on it
picked_lies : (m : Picks) (j : ℕ) (c : List Ground) (p : Place) → is_picked m j c p ≡ true → lies_on c p ≡ true
picked_lies m j [] p h = h
picked_lies m j (g ∷ gs) p h = by (or_cases (m j Left && same_place p (beside g Left)) ((m j Right && same_place p (beside g Right)) || is_picked m (j + 1) gs p) h) (picked_lies m (j + 1) gs p)
  where
    here : (s : LinkSide) → (m j s && same_place p (beside g s)) ≡ true → lies_on (g ∷ gs) p ≡ true
    here s e =
        let a = and_parts (m j s) (same_place p (beside g s)) e in
        let b = and_parts (nat_eq p.link g.link && nat_eq p.mm g.mm) _ a.1 in
        let k = and_parts (nat_eq p.link g.link) (nat_eq p.mm g.mm) b.0 in
        or_left (is_at (p.link, p.mm) g) (lies_on gs p)
        (and_from (nat_eq g.link p.link) (nat_eq g.mm p.mm) (eq-eqb g.link p.link (sym (eqb-true p.link g.link k.0))) (eq-eqb g.mm p.mm (sym (eqb-true p.mm g.mm k.1))))

    later : ((m j Right && same_place p (beside g Right)) ≡ true) ⊎ (is_picked m (j + 1) gs p ≡ true) → (is_picked m (j + 1) gs p ≡ true → lies_on gs p ≡ true) → lies_on (g ∷ gs) p ≡ true
    later (inl e) rest = here Right e
    later (inr e) rest = or_right (is_at (p.link, p.mm) g) (lies_on gs p) (rest e)

    by : ((m j Left && same_place p (beside g Left)) ≡ true) ⊎ (((m j Right && same_place p (beside g Right)) || is_picked m (j + 1) gs p) ≡ true) → (is_picked m (j + 1) gs p ≡ true → lies_on gs p ≡ true) → lies_on (g ∷ gs) p ≡ true
    by (inl e) rest = here Left e
    by (inr e) rest = later (or_cases (m j Right && same_place p (beside g Right)) (is_picked m (j + 1) gs p) e) rest

-- a test that passes nowhere along a course picks nothing of it
picked_nowhere : (m : Picks) (j : ℕ) (c : List Ground) (p : Place) → ((k : ℕ) (s : LinkSide) → j ≤ k → k < j + length c → m k s ≡ false) → is_picked m j c p ≡ false
picked_nowhere m j c p none = picked-within m (λ k s. false) j c p none ∙ picked-none (λ k s. false) j c p (λ k s l. refl)

and_true : (b : Bool) → (b && true) ≡ b
and_true true = refl
and_true false = refl

and_false : (b : Bool) → (b && false) ≡ false
and_false true = refl
and_false false = refl

module _ (c : List Ground) (from to : ℕ) (low : from ≤ to) (high : to ≤ length c) where
  abbrev pub front : List Ground
  front = take from c

  abbrev pub part : List Ground
  part = slice_range c from to

  abbrev pub rear : List Ground
  rear = drop to c

  -- a course is what stands before, between and behind
  pub three_parts : front ++ (part ++ rear) ≡ c
  three_parts = ap (λ l. take from c ++ l) (sym (drop_split c from to low)) ∙ take-append-drop from c

  pub front_length : length front ≡ from
  front_length = length-take-le from c (omega (arith, low, high))

  part_length : length part ≡ to - from
  part_length = let e = length-drop from c in length-take-le (to - from) (drop from c) (omega (arith, e, low, high))

  -- how long the course is with other ground for the stretch
  pub replaced_length : (ground : List Ground) → length (replaced from to ground c) ≡ (from + length ground) + (length c - to)
  replaced_length ground =
      let a = length-append (front ++ ground) rear in
      let b = length-append front ground in
      let f = front_length in
      let e = length-drop to c in
      omega (arith, a, b, f, e)

  module _ (rows : List Span) (a : ℕ) (p : Place) where
    abbrev held : Picks
    held = is_held rows a

    held_three : holds_by_spans c rows a p ≡ (is_picked held 0 front p || (is_picked held from part p || is_picked held to rear p))
    held_three =
        let f = front_length in
        let g = part_length in
        rows_hold c rows a p
        ∙ ap (λ l. is_picked held 0 l p) (sym three_parts)
        ∙ picked-append held 0 front (part ++ rear) p
        ∙ ap (λ k. is_picked held 0 front p || is_picked held k (part ++ rear) p) (omega (arith, f))
        ∙ ap (λ t. is_picked held 0 front p || t) (picked-append held from part rear p ∙ ap (λ k. is_picked held from part p || is_picked held k rear p) (omega (arith, g, low)))

  module _ (once : each_two differs c ≡ true) (p : Place) where
    all_once : each_two differs (front ++ (part ++ rear)) ≡ true
    all_once = ap (each_two differs) three_parts ∙ once

    -- what is picked of the stretch is picked of nothing else of the course
    not_front : lies_on part p ≡ true → (m : Picks) → is_picked m 0 front p ≡ false
    not_front on m = is_false (is_picked m 0 front p) (λ h.
        across (p.link, p.mm) front (part ++ rear) all_once (picked_lies m 0 front p h) (list_any-append (is_at (p.link, p.mm)) part rear ∙ or_left (lies_on part p) (lies_on rear p) on))

    not_rear : lies_on part p ≡ true → (m : Picks) → is_picked m to rear p ≡ false
    not_rear on m = is_false (is_picked m to rear p) (λ h. across (p.link, p.mm) part rear (behind front (part ++ rear) all_once) on (picked_lies m to rear p h))

    not_part : lies_on part p ≡ false → (m : Picks) → is_picked m from part p ≡ false
    not_part off m = is_false (is_picked m from part p) (λ h. both_ways (lies_on part p) off (picked_lies m from part p h))

    abbrev parts : Bool → Bool → Bool → Bool
    parts x y z = x || (y || z)

    module _ (rows : List Span) (a : ℕ) where
      abbrev all : Picks
      all = is_held rows a

      -- the rows of the stretch hold what the rows held of it
      pub stretch_holds : (taken : List Span) → IsThat (λ class asset j s. is_within from to j) rows taken → holds_by_spans c taken a p ≡ (holds_by_spans c rows a p && lies_on part p)
      stretch_holds taken is = held_three taken a p ∙ by (cases_Bool (lies_on part p)) ∙ sym (ap (λ b. b && lies_on part p) (held_three rows a p))
        where
          there : (j : ℕ) (s : LinkSide) → is_held taken a j s ≡ (all j s && is_within from to j)
          there j s = held_alike a j j s taken rows (is_within from to j) (λ class. is class a j s)

          before : is_picked (is_held taken a) 0 front p ≡ false
          before = let f = front_length in picked_nowhere (is_held taken a) 0 front p (λ j s l g.
              there j s ∙ ap (λ b. all j s && (b && nat_lt j to)) (lt-leb from j (omega (arith, f, g))) ∙ and_false (all j s))

          behind_it : is_picked (is_held taken a) to rear p ≡ false
          behind_it = picked_nowhere (is_held taken a) to rear p (λ j s l g.
              there j s ∙ ap (λ b. all j s && (nat_le from j && b)) (le-ltb j to l) ∙ ap (λ b. all j s && b) (and_false (nat_le from j)) ∙ and_false (all j s))

          inside : is_picked (is_held taken a) from part p ≡ is_picked all from part p
          inside = let g = part_length in picked-within (is_held taken a) all from part p (λ j s l h.
              there j s ∙ (λ i. all j s && (le-leb from j l i && lt-ltb j to (omega (arith, g, h, low)) i)) ∙ and_true (all j s))

          by : (lies_on part p ≡ true) ⊎ (lies_on part p ≡ false) → parts (is_picked (is_held taken a) 0 front p) (is_picked (is_held taken a) from part p) (is_picked (is_held taken a) to rear p)
              ≡ (parts (is_picked all 0 front p) (is_picked all from part p) (is_picked all to rear p) && lies_on part p)
          by (inl on) = (λ i. parts (before i) (inside i) (behind_it i)) ∙ sym (and_true (is_picked all from part p || false)) ∙ sym (λ i. parts (not_front on all i) (is_picked all from part p) (not_rear on all i) && on i)
          by (inr off) = (λ i. parts (before i) (not_part off (is_held taken a) i) (behind_it i))
              ∙ sym (and_false (parts (is_picked all 0 front p) (is_picked all from part p) (is_picked all to rear p)))
              ∙ sym (λ i. parts (is_picked all 0 front p) (is_picked all from part p) (is_picked all to rear p) && off i)

      -- realigned rows hold what the rows held, but for what lay on the stretch
      pub realigned_holds : (ground : List Ground) (new : List Span) → IsRealigned from to (length ground) rows new → holds_by_spans (replaced from to ground c) new a p ≡ (holds_by_spans c rows a p && not (lies_on part p))
      realigned_holds ground new is =
          rows_hold (replaced from to ground c) new a p
          ∙ picked-append (is_held new a) 0 (front ++ ground) rear p
          ∙ ap (λ t. t || is_picked (is_held new a) (0 + length (front ++ ground)) rear p) (picked-append (is_held new a) 0 front ground p)
          ∙ (λ i. (before i || on_it i) || behind_it i)
          ∙ by (cases_Bool (lies_on part p))
          ∙ sym (ap (λ b. b && not (lies_on part p)) (held_three rows a p))
        where
          before : is_picked (is_held new a) 0 front p ≡ is_picked all 0 front p
          before = let f = front_length in picked-within (is_held new a) all 0 front p (λ j s l g. held_same a j j s new rows (λ class. is.before class a j s (omega (arith, f, g))))

          none : (j : ℕ) (s : LinkSide) → from ≤ j → j < from + length ground → is_held new a j s ≡ false
          none j s l g =
              let e : (j - from) + from ≡ j = omega (arith, l) in
              is_false (is_held new a j s) (λ h.
              let m = held_member a j s new h in
              both_ways (is_member new m.0 a j s) (ap (λ k. is_member new m.0 a k s) (sym e) ∙ is.inside m.0 a (j - from) s (omega (arith, l, g))) m.1)

          on_it : is_picked (is_held new a) (0 + length front) ground p ≡ false
          on_it = let f = front_length in picked_nowhere (is_held new a) (0 + length front) ground p (λ j s l g. none j s (omega (arith, f, l)) (omega (arith, f, g)))

          behind_it : is_picked (is_held new a) (0 + length (front ++ ground)) rear p ≡ is_picked all to rear p
          behind_it =
              let f = front_length in
              let g = length-append front ground in
              ap (λ k. is_picked (is_held new a) k rear p) (omega (arith, f, g))
              ∙ picked-shift (is_held new a) (from + length ground) 0 rear p
              ∙ (λ i. is_picked (λ k s. held_same a (k + (from + length ground)) (k + to) s new rows (λ class. is.behind class a k s) i) 0 rear p)
              ∙ sym (picked-shift all to 0 rear p)
              ∙ ap (λ k. is_picked all k rear p) (omega arith)

          by : (lies_on part p ≡ true) ⊎ (lies_on part p ≡ false) → ((is_picked all 0 front p || false) || is_picked all to rear p)
              ≡ ((is_picked all 0 front p || (is_picked all from part p || is_picked all to rear p)) && not (lies_on part p))
          by (inl on) = (λ i. (not_front on all i || false) || not_rear on all i)
              ∙ sym (and_false (is_picked all 0 front p || (is_picked all from part p || is_picked all to rear p)))
              ∙ sym (λ i. (is_picked all 0 front p || (is_picked all from part p || is_picked all to rear p)) && not (on i))
          by (inr off) = either (is_picked all 0 front p) (is_picked all to rear p) ∙ sym (λ i. (is_picked all 0 front p || (not_part off all i || is_picked all to rear p)) && not (off i))
            where
              either : (x z : Bool) → ((x || false) || z) ≡ ((x || (false || z)) && true)
              either true z = refl
              either false true = refl
              either false false = refl
