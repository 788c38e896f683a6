use Rattle.std.proofs.Common.{◌≡◌, ◌∙◌, ◌<◌, ◌≤◌, List, length, sym, ap, subst, true, false, arith}
use Rattle.std.specs.List.Sorted.{IsPartitionPoint}
use Rattle.lrs_events.specs.declared.span.Span.{Span}
use Rattle.lrs_events.specs.Changes.{same_row}
use Rattle.lrs_events.specs.LaneLists.Order.{row_before}
use Rattle.lrs_events.proofs.LaneLists.Ranks.{row_ranks, row_is}
use Rattle.lrs_events.proofs.LaneLists.Strict.{taken_there, left_there, left_nowhere}
use Rattle.lrs_events.proofs.lanes.sorted_rows.remove_row.Goals as goal
use Rattle.lrs_events.proofs.lanes.sorted_rows.remove_row.Goals.{else-at-len-via-then-at-len+else-is_same, else-at-len-via-else-at-len}

pub returns-then-is_same-clause-items : goal.returns-then-is_same-clause-items
returns-then-is_same-clause-items c =
    let before = row_before c.args.order in
    let row = c.args.row.now in
    let at = c.rows_before-at.result in
    let len = c.args.rows.now.ok.0 in
    let within : at < length c.args.rows.now.items = let a = c.if-at-len.true in let b = c.len.ensures in omega (arith, a, b, len) in
    let point = subst (λ (z : List Span). IsPartitionPoint (λ r. before r row ≡ true) (λ r. before r row ≡ false) z at) c.deref.ensures.value c.rows_before-at.ensures.point in
    c.remove.ensures.items
    ∙ sym (taken_there before (row_ranks c.args.order) (λ r. same_row row r) row (λ r h. sym (row_is row r h)) c.args.rows.now.items at c.requires point c.index.result.now within
    (ap (same_row row) (sym c.index.ensures) ∙ sym c.is_same.ensures ∙ c.if-is_same.true))

pub returns-else-at-len-clause-items : goal.returns-else-at-len-clause-items
returns-else-at-len-clause-items c =
    let before = row_before c.args.order in
    let row = c.args.row.now in
    let rows = c.args.rows.now.items in
    let at = c.rows_before-at.result in
    let len = c.args.rows.now.ok.0 in
    let size = c.len.ensures in
    let point = subst (λ (z : List Span). IsPartitionPoint (λ r. before r row ≡ true) (λ r. before r row ≡ false) z at) c.deref.ensures.value c.rows_before-at.ensures.point in
    elim c.else-at-len.branch [
      | else-at-len-via-then-at-len+else-is_same w ↦
          let within : at < length rows = let a = w.if-at-len.true in omega (arith, a, size, len) in
          sym (left_there before (row_ranks c.args.order) (λ r. same_row row r) row (λ r h. sym (row_is row r h)) rows at c.requires point w.index.result.now within
          (ap (same_row row) (sym w.index.ensures) ∙ sym w.is_same.ensures ∙ w.if-is_same.false))
      | else-at-len-via-else-at-len w ↦
          let past : length rows ≤ at = let a = w.if-at-len.false in omega (arith, a, size, len) in
          sym (left_nowhere before (row_ranks c.args.order) (λ r. same_row row r) row (λ r h. sym (row_is row r h)) rows at c.requires point past)
    ]
