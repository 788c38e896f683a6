-- Canonical rows inserted where there were none.
use Rattle.std.proofs.Common.{◌≡◌, true, List, [], inl, inr, ◌⊎◌, refl, ◌∙◌}
use Rattle.lrs_measure.specs.OrderedLists.{insert_all}
use Rattle.lrs_measure.specs.Lists.{In}
use Rattle.lrs_events.specs.declared.span.Span.{Span}
use Rattle.lrs_events.specs.Changes.{changed}
use Rattle.lrs_events.specs.Spans.{are_rows, span_before}
use Rattle.lrs_events.proofs.Row.Changing.{spans_strict, rows_sorted}
use Rattle.lrs_events.proofs.Row.Sorted.{one_list, put_all}

pub all_come : (rows : List Span) → are_rows rows ≡ true → insert_all span_before rows [] ≡ rows
all_come rows h =
    let put = put_all span_before spans_strict rows rows [] (rows_sorted rows h) (rows_sorted rows h) refl (λ r m. m) (λ r m. absurd m) (λ r m n. n) in
    one_list span_before spans_strict (insert_all span_before rows []) rows put.in_order (rows_sorted rows h) (λ r m. only r (put.from r m)) (λ r m. put.to r (inl m))
  where
    only : (r : Span) → In r rows ⊎ In r [] → In r rows
    only r (inl m) = m
    only r (inr m) = absurd m

-- ... and none go
pub these_come : (rows come old : List Span) → are_rows rows ≡ true → come ≡ rows → old ≡ [] → changed span_before [] come old ≡ rows
these_come rows come old h e f = (λ j. changed span_before [] (e j) (f j)) ∙ all_come rows h
