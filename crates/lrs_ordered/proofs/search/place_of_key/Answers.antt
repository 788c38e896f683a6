use Rattle.std.proofs.Common.{sym, ap, ◌∙◌, arith}
use Rattle.std.specs.Ordering.{is_eq}
use Rattle.lrs_ordered.proofs.Finds.{missed_all, beyond_all}
use Rattle.lrs_ordered.proofs.search.place_of_key.Goals as goal

pub returns-then-at-rows-clause-missed : goal.returns-then-at-rows-clause-missed
returns-then-at-rows-clause-missed g c =
    beyond_all (λ (row : g.row.T.Denot). g.T.Keyed.key_order row c.args.key.now) c.args.rows.now c.place_from-at.result c.place_from-at.ensures.place (omega arith)

pub returns-clause-missed : goal.returns-clause-missed
returns-clause-missed g c =
    let order = λ (row : g.row.T.Denot). g.T.Keyed.key_order row c.args.key.now in
    let row = c.index-rows-at.result in
    let here = ap (λ r. is_eq (order r)) (sym c.index-rows-at.is) ∙ sym c.has_key.ensures ∙ c.if-has_key.false in
    missed_all order c.args.rows.now c.place_from-at.result row c.requires.order c.place_from-at.ensures.place (omega arith) here
