use Rattle.std.proofs.Common.{◌≡◌, ◌∙◌, ◌+◌, ◌<◌, ℕ, Bool, List, ◌∷◌, length, get_or, drop, sym, ap, arith}
use Rattle.std.proofs.lemmas.List.{drop_more, drop_all}
use Rattle.lrs_measure.specs.OrderedLists.{insert_by, insert_all}
use Rattle.lrs_events.specs.declared.span.Span.{Span}
use Rattle.lrs_events.specs.LaneLists.Order.{row_before}
use Rattle.lrs_events.proofs.LaneLists.Inserted.{insert_order}
use Rattle.lrs_events.proofs.lanes.sorted_rows.insert_rows.Goals as goal

insert_more : (before : Span → Span → Bool) (come : List Span) (i : ℕ) (x : Span) (rows new all : List Span) → i < length come → x ≡ get_or come i x → new ≡ insert_by before x rows
    → insert_all before (drop i come) rows ≡ all → insert_all before (drop (i + 1) come) new ≡ all
insert_more before come i x rows new all h is e k =
    let d : drop i come ≡ x ∷ drop (i + 1) come = drop_more come i x h ∙ (λ j. sym is j ∷ drop (i + 1) come) in
    ap (insert_all before (drop (i + 1) come)) e ∙ (λ j. insert_all before (sym d j) rows) ∙ k

pub insert_row-requires-clause-order : goal.insert_row-requires-clause-order
insert_row-requires-clause-order c =
    insert_order (row_before c.args.order) c.args.come.now c.loop-row.row-index c.row-item.result c.loop-row.rows.items _ c.loop-row-test.true c.row-item.is c.loop-row.invariant.rest c.requires.order

pub loop-row-preserved : goal.loop-row-preserved
loop-row-preserved c =
    let more = c.insert_row.ensures in
    let invariant = c.loop-row.invariant in
    let kept = more.capacity in
    record {
      room = let len = more.len in let room = invariant.room in omega (arith, len, room, kept);
      rest = insert_more (row_before c.args.order) c.args.come.now c.loop-row.row-index c.row-item.result c.loop-row.rows.items c.insert_row.new.rows.items _ c.loop-row-test.true c.row-item.is more.items invariant.rest;
      capacity = let before = invariant.capacity in omega (arith, before, kept);
    }

pub returns-clause-items : goal.returns-clause-items
returns-clause-items c = (λ j. insert_all (row_before c.args.order) (sym (drop_all c.loop-row.row-index c.args.come.now c.loop-row-test.false) j) c.loop-row.rows.items) ∙ c.loop-row.invariant.rest
