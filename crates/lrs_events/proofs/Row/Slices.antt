-- A slice of rows in order is in order.
use Rattle.std.proofs.Common.{◌≡◌, ℕ, ◌-◌, suc, zero, true, inl, inr, List, [], ◌∷◌, take, drop, slice_range, refl, ◌∙◌}
use Rattle.std.specs.List.{list_all}
use Rattle.std.proofs.lemmas.Bool.{and_parts, and_from}
use Rattle.lrs_measure.specs.Lists.{In, each_two}
use Rattle.lrs_measure.proofs.Members.{all_at, all_of}
use Rattle.lrs_events.specs.declared.span.Span.{Span}
use Rattle.lrs_events.specs.Spans.{are_rows, span_before}
use Rattle.lrs_events.proofs.Row.Changing.{rows_sorted}

In-take : (n : ℕ) (xs : List Span) (x : Span) → In x (take n xs) → In x xs
In-take zero xs x m = absurd m
In-take (suc n) [] x m = absurd m
In-take (suc n) (y ∷ ys) x (inl e) = inl e
In-take (suc n) (y ∷ ys) x (inr m) = inr (In-take n ys x m)

sorted-take : (n : ℕ) (xs : List Span) → each_two span_before xs ≡ true → each_two span_before (take n xs) ≡ true
sorted-take zero xs h = refl
sorted-take (suc n) [] h = refl
sorted-take (suc n) (y ∷ ys) h =
    let a = and_parts (list_all (span_before y) ys) (each_two span_before ys) h in
    and_from (list_all (span_before y) (take n ys)) (each_two span_before (take n ys))
    (all_of (span_before y) (take n ys) (λ x m. all_at (span_before y) x ys a.0 (In-take n ys x m)))
    (sorted-take n ys a.1)

sorted-drop : (n : ℕ) (xs : List Span) → each_two span_before xs ≡ true → each_two span_before (drop n xs) ≡ true
sorted-drop zero xs h = h
sorted-drop (suc n) [] h = refl
sorted-drop (suc n) (y ∷ ys) h = sorted-drop n ys (and_parts (list_all (span_before y) ys) (each_two span_before ys) h).1

pub slice_in_order : (rows part : List Span) (i j : ℕ) → are_rows rows ≡ true → part ≡ slice_range rows i j → each_two span_before part ≡ true
slice_in_order rows part i j h e = (λ k. each_two span_before (e k)) ∙ sorted-take (j - i) (drop i rows) (sorted-drop i rows (rows_sorted rows h))
