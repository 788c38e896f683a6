use Rattle.std.proofs.Common.{sym, ap, ◌∙◌}
use Rattle.lrs_measure.specs.Lists.{each_two}
use Rattle.lrs_measure.specs.OrderedLists.{insert_all}
use Rattle.lrs_measure.proofs.Insertions.{order_of_first}
use Rattle.lrs_ordered.proofs.chunked.Chunked.insert_all_ordered.Goals as goal

pub insert_ordered-requires-clause-order : goal.insert_ordered-requires-clause-order
insert_ordered-requires-clause-order g c =
    let before = g.T.Ordered.before in
    let rows = c.loop-row.self.rows in
    order_of_first before c.next.new.self.rest.items _
    (ap (λ others. each_two before (insert_all before others rows)) (sym c.in-Some.ensures.steps.0) ∙ ap (each_two before) c.loop-row.invariant.rest ∙ c.requires.order)
