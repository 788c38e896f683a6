use Rattle.std.proofs.Common.{◌++◌, ◌∙◌, ap, subst, List}
use Rattle.std.specs.List.Sorted.{IsPermutation}
use Rattle.lrs_events.specs.declared.span.Span.{Span}
use Rattle.lrs_events.specs.Changes.{without_rows}
use Rattle.lrs_events.proofs.LaneLists.Inserted.{sorted_rows}
use Rattle.lrs_events.proofs.lanes.sorted_rows.change_many.Goals as goal

pub returns-clause-items : goal.returns-clause-items
returns-clause-items c =
    let others = without_rows c.args.gone.now c.args.rows.now.items in
    let come = c.args.come.now in
    let new = c.sort.new.rows.items in
    sorted_rows c.args.order come others new c.requires.after
    (subst (λ (z : List Span). IsPermutation z new) (c.append_in_room.ensures.items ∙ ap (λ z. z ++ come) c.retain_others.ensures.items) c.sort.ensures.same)
    c.sort.ensures.sorted
