use Rattle.std.proofs.Common.{Some, sym, ap, ◌∙◌, arith}
use Rattle.std.specs.Ordering.{is_eq}
use Rattle.lrs_ordered.proofs.Finds.{found, missed, beyond}
use Rattle.lrs_ordered.proofs.search.find_in.Goals as goal

pub returns-then-at-rows : goal.returns-then-at-rows
returns-then-at-rows g c =
    sym (beyond (λ (row : g.row.T.Denot). g.T.Keyed.key_order row c.args.key.now) c.args.rows.now c.place_from-at.result c.place_from-at.ensures.place (omega arith))

pub returns-then-has_key : goal.returns-then-has_key
returns-then-has_key g c =
    let order = λ (row : g.row.T.Denot). g.T.Keyed.key_order row c.args.key.now in
    let row = c.index-rows-at.result in
    let here = ap (λ r. is_eq (order r)) (sym c.index-rows-at.is) ∙ sym c.has_key.ensures ∙ c.if-has_key.true in
    ap Some c.index-rows-at.is ∙ sym (found order c.args.rows.now c.place_from-at.result row c.place_from-at.ensures.place (omega arith) here)

pub returns : goal.returns
returns g c =
    let order = λ (row : g.row.T.Denot). g.T.Keyed.key_order row c.args.key.now in
    let row = c.index-rows-at.result in
    let here = ap (λ r. is_eq (order r)) (sym c.index-rows-at.is) ∙ sym c.has_key.ensures ∙ c.if-has_key.false in
    sym (missed order c.args.rows.now c.place_from-at.result row c.requires.order c.place_from-at.ensures.place (omega arith) here)
