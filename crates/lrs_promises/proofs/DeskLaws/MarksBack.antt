-- Marks that are split and joined again, or mirrored twice, and courses turned twice.
use Rattle.std.proofs.Common.{◌≡◌, ℕ, suc, ◌+◌, ◌-◌, ◌<◌, Bool, true, false, List, [], ◌∷◌, ◌++◌, length, get_or, take, drop, map, refl, ap, ◌∙◌, arith}
use Rattle.std.specs.Prelude.{reverse, not}
use Rattle.std.proofs.lemmas.List.{length-map, length-take, length-drop, length-reverse, get_or-map, get_or-take, get_or-drop, get_or-reverse, drop-map, drop-drop, take-append-drop, map-append, reverse-append}
use Rattle.lrs_element.specs.declared.link.Ground.{Ground}
use Rattle.lrs_element.specs.declared.marks.Mark.{Mark}
use Rattle.lrs_element.specs.Course.{turned}
use Rattle.lrs_element.specs.Marks.{no_mark, marks_to, marks_from, joined_marks, mirrored, are_marks, is_inner_mark, last_mark}
use Rattle.lrs_element.specs.Lines.{mark_at, IsLine}
use Rattle.lrs_element.proofs.Lining.{IsInner, from_there, marks_to_is, marks_from_is, joined_is, IsLine-front, IsLine-mirrored, mirror, mirrored_is, rises_far, chainage_le, measure_le, line_from_are_marks, inner_place}

-- what f makes of each element, g makes back
mapped_back : {X : Type 0} (f g : X → X) (d : X) (xs : List X) → ((k : ℕ) → k < length xs → g (f (get_or xs k d)) ≡ get_or xs k d) → map g (map f xs) ≡ xs
mapped_back f g d [] h = refl
mapped_back f g d (x ∷ xs) h = λ j. h 0 (omega arith) j ∷ mapped_back f g d xs (λ k lt. h (suc k) (omega arith)) j

-- ... from the other end, and back from there
there_and_back : {X : Type 0} (f g : X → X) (d : X) (xs : List X) → ((k : ℕ) → k < length xs → g (f (get_or xs k d)) ≡ get_or xs k d) → reverse (map g (reverse (map f xs))) ≡ xs
there_and_back f g d [] h = refl
there_and_back f g d (x ∷ xs) h =
    ap (λ l. reverse (map g l)) (reverse-append (f x ∷ []) (map f xs))
    ∙ ap reverse (map-append g (reverse (map f xs)) (f x ∷ []))
    ∙ reverse-append (map g (reverse (map f xs))) (g (f x) ∷ [])
    ∙ (λ j. h 0 (omega arith) j ∷ there_and_back f g d xs (λ k lt. h (suc k) (omega arith)) j)

-- a course turned twice
abbrev flipped : Ground → Ground
flipped g = record { link = g.link; mm = g.mm; forward = not g.forward }

pub turned_back : (course : List Ground) → turned (turned course) ≡ course
turned_back course = there_and_back flipped flipped (record { link = 0; mm = 0; forward = true }) course (λ k lt. same (get_or course k (record { link = 0; mm = 0; forward = true })))
  where
    twice : (b : Bool) → not (not b) ≡ b
    twice true = refl
    twice false = refl

    same : (g : Ground) → flipped (flipped g) ≡ g
    same g = λ j. record { link = g.link; mm = g.mm; forward = twice g.forward j }

module _ (len : ℕ) (xs : List Mark) (l : IsLine len xs) where
  -- marks mirrored twice
  abbrev ends : ℕ
  ends = (mark_at xs 0).measure + (mark_at xs (length xs - 1)).measure

  abbrev seen : List Mark
  seen = reverse (map (mirror len ends) xs)

  seen_length : length seen ≡ length xs
  seen_length = length-reverse (map (mirror len ends) xs) ∙ length-map xs (mirror len ends)

  seen_at : (k : ℕ) → k < length xs → mark_at seen k ≡ mirror len ends (mark_at xs (length xs - 1 - k))
  seen_at k h =
      get_or-reverse (map (mirror len ends) xs) k no_mark (omega (arith, length-map xs (mirror len ends)))
      ∙ ap (λ (j : ℕ). get_or (map (mirror len ends) xs) (j - 1 - k) no_mark) (length-map xs (mirror len ends))
      ∙ get_or-map (mirror len ends) xs (length xs - 1 - k) no_mark no_mark (omega arith)

  seen_ends : (mark_at seen 0).measure + (mark_at seen (length seen - 1)).measure ≡ ends
  seen_ends =
      let first : (mark_at seen 0).measure ≡ (mark_at xs 0).measure =
      ap (λ (m : Mark). m.measure) (seen_at 0 (omega (arith, l.enough))) ∙ ap (λ k. ends - (mark_at xs k).measure) (let z : length xs - 1 - 0 ≡ length xs - 1 = omega arith in z) ∙ omega arith in
      let last : (mark_at seen (length seen - 1)).measure ≡ (mark_at xs (length xs - 1)).measure =
      ap (λ k. (mark_at seen (k - 1)).measure) seen_length ∙ ap (λ (m : Mark). m.measure) (seen_at (length xs - 1) (omega (arith, l.enough)))
      ∙ ap (λ k. ends - (mark_at xs k).measure) (let z : length xs - 1 - (length xs - 1) ≡ 0 = omega arith in z) ∙ omega arith in
      omega (arith, first, last)

  again : (k : ℕ) → k < length xs → mirror len ends (mirror len ends (mark_at xs k)) ≡ mark_at xs k
  again k lt =
      let c = chainage_le len xs l k lt in
      let m = measure_le len xs l k (length xs - 1) (omega arith) (omega arith) in
      let chainage : len - (len - (mark_at xs k).chainage) ≡ (mark_at xs k).chainage = omega (arith, c) in
      let measure : ends - (ends - (mark_at xs k).measure) ≡ (mark_at xs k).measure = omega (arith, m) in
      λ j. record { chainage = chainage j; measure = measure j }

  mirrored_twice : mirrored (mirrored xs) ≡ xs
  mirrored_twice =
      ap mirrored (mirrored_is len xs l) ∙ mirrored_is len seen (IsLine-mirrored len xs l)
      ∙ ap (λ n. reverse (map (mirror len n) seen)) seen_ends
      ∙ there_and_back (mirror len ends) (mirror len ends) no_mark xs again

  -- marks split at an inner one, and joined again
  module _ (at r : ℕ) (i : IsInner len xs at r) where
    abbrev front : List Mark
    front = take (r + 1) xs

    abbrev rear : List Mark
    rear = map (from_there at) (drop r xs)

    abbrev moved_by : ℕ → ℕ → Mark → Mark
    moved_by up down m = record { chainage = m.chainage + at; measure = (m.measure + up) - down }

    top : ℕ
    top = (mark_at xs r).measure

    front_length : length front ≡ r + 1
    front_length = omega (arith, length-take (r + 1) xs, i.mark.within)

    up_is : (mark_at front (length front - 1)).measure ≡ (mark_at xs r).measure
    up_is = ap (λ k. (mark_at front (k - 1)).measure) front_length
        ∙ ap (λ k. (mark_at front k).measure) (let z : r + 1 - 1 ≡ r = omega arith in z)
        ∙ ap (λ (m : Mark). m.measure) (get_or-take (r + 1) xs r no_mark (omega arith))

    down_is : (mark_at rear 0).measure ≡ (mark_at xs r).measure
    down_is = ap (λ (m : Mark). m.measure) (get_or-map (from_there at) (drop r xs) 0 no_mark no_mark (omega (arith, length-drop r xs, i.mark.within)))
        ∙ ap (λ (m : Mark). m.measure) (get_or-drop r xs 0 no_mark)
        ∙ ap (λ k. (mark_at xs k).measure) (let z : r + 0 ≡ r = omega arith in z)

    rest_is : drop 1 rear ≡ map (from_there at) (drop (r + 1) xs)
    rest_is = drop-map (from_there at) 1 (drop r xs) ∙ ap (map (from_there at)) (drop-drop 1 r xs)

    back_there : (up : ℕ) (k : ℕ) → k < length (drop (r + 1) xs) → moved_by up up (from_there at (get_or (drop (r + 1) xs) k no_mark)) ≡ get_or (drop (r + 1) xs) k no_mark
    back_there up k lt =
        let m = get_or (drop (r + 1) xs) k no_mark in
        let far = rises_far len xs l r (r + 1 + k) (omega arith) (omega (arith, length-drop (r + 1) xs)) in
        let is : m ≡ mark_at xs (r + 1 + k) = get_or-drop (r + 1) xs k no_mark in
        let there : m.chainage ≡ (mark_at xs (r + 1 + k)).chainage = ap (λ (q : Mark). q.chainage) is in
        let chainage : m.chainage - at + at ≡ m.chainage = omega (arith, far.chainage, i.mark.is, there) in
        let measure : m.measure + up - up ≡ m.measure = omega arith in
        λ j. record { chainage = chainage j; measure = measure j }

    joined_again : joined_marks (marks_to at xs) (marks_from at xs) ≡ xs
    joined_again =
        (λ j. joined_marks (marks_to_is len xs at r l i.mark j) (marks_from_is len xs at r l i.mark j))
        ∙ joined_is at front rear (IsLine-front len xs at r l i)
        ∙ (λ j. front ++ map (moved_by (up_is j) (down_is j)) (rest_is j))
        ∙ ap (λ ms. front ++ ms) (mapped_back (from_there at) (moved_by (mark_at xs r).measure (mark_at xs r).measure) no_mark (drop (r + 1) xs) (back_there (mark_at xs r).measure))
        ∙ take-append-drop (r + 1) xs

pub marks_joined_again : (xs : List Mark) (at : ℕ) → are_marks xs ≡ true → is_inner_mark xs at ≡ true → joined_marks (marks_to at xs) (marks_from at xs) ≡ xs
marks_joined_again xs at h inner =
    let r = inner_place xs at inner in
    joined_again (last_mark xs).chainage xs (line_from_are_marks xs h) at r.0 r.1

pub marks_mirrored_twice : (xs : List Mark) → are_marks xs ≡ true → mirrored (mirrored xs) ≡ xs
marks_mirrored_twice xs h = mirrored_twice (last_mark xs).chainage xs (line_from_are_marks xs h)
