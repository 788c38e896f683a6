use Rattle.std.proofs.Common.{◌∙◌, sym, ap, insert}
use Rattle.lrs_measure.specs.OrderedLists.{place_by}
use Rattle.lrs_measure.proofs.Insertions.{insert_by-place}
use Rattle.lrs_events.specs.LaneLists.Order.{row_before}
use Rattle.lrs_events.proofs.lanes.sorted_rows.insert_row.Goals as goal

pub returns-clause-items : goal.returns-clause-items
returns-clause-items c =
    let before = row_before c.args.order in
    let rows = c.args.rows.now.items in
    let row = c.args.row in
    c.insert_at.ensures.items
    ∙ ap (λ k. insert rows k row) (c.place_of-at.ensures.place ∙ ap (place_by (before row)) c.deref.ensures.value)
    ∙ sym (insert_by-place before row rows)
