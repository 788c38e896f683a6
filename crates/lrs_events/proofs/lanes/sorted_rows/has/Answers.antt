use Rattle.std.proofs.Common.{sym, ap, ◌∙◌}
use Rattle.lrs_events.specs.Changes.{same_row}
use Rattle.lrs_events.specs.LaneLists.Order.{row_before}
use Rattle.lrs_events.proofs.LaneLists.Ranks.{row_ranks, row_is}
use Rattle.lrs_events.proofs.LaneLists.Strict.{found_there, found_nowhere}
use Rattle.lrs_events.proofs.lanes.sorted_rows.has.Goals as goal

pub returns-then-at-rows : goal.returns-then-at-rows
returns-then-at-rows c =
    let row = c.args.row.now in
    c.is_same.ensures ∙ ap (λ s. same_row s row) c.index-rows-at.is
    ∙ sym (found_there (row_before c.args.order) (row_ranks c.args.order) (λ s. same_row s row) row (λ s h. row_is s row h) c.args.rows.now c.rows_before-at.result c.requires c.rows_before-at.ensures.point c.index-rows-at.result c.if-at-rows.true)

pub returns-else-at-rows : goal.returns-else-at-rows
returns-else-at-rows c =
    let row = c.args.row.now in
    sym (found_nowhere (row_before c.args.order) (row_ranks c.args.order) (λ s. same_row s row) row (λ s h. row_is s row h) c.args.rows.now c.rows_before-at.result c.requires c.rows_before-at.ensures.point c.if-at-rows.false)
