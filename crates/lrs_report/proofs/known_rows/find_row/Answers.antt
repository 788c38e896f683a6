use Rattle.std.proofs.Common.{Some, sym, ap, ◌∙◌, arith}
use Rattle.std.specs.Ordering.{is_eq}
use Rattle.lrs_report.proofs.Keyed.{found, missed, beyond}
use Rattle.lrs_report.proofs.known_rows.find_row.Goals as goal

pub returns-then-at-rows : goal.returns-then-at-rows
returns-then-at-rows g c =
    sym (beyond (λ (row : g.row.T.Denot). g.T.Keyed.key_order row c.args.key.now) c.args.rows.now c.rows_below-at.result c.rows_below-at.ensures.place (omega arith))

pub returns-then-is_eq : goal.returns-then-is_eq
returns-then-is_eq g c =
    let order = λ (row : g.row.T.Denot). g.T.Keyed.key_order row c.args.key.now in
    let row = c.index-rows-at.result in
    let here = ap (λ r. is_eq (order r)) (sym c.index-rows-at.is) ∙ ap is_eq (sym c.cmp_key.ensures) ∙ sym c.is_eq.ensures ∙ c.if-is_eq.true in
    ap Some c.index-rows-at.is
    ∙ sym (found order c.args.rows.now c.rows_below-at.result row c.rows_below-at.ensures.place (omega arith) here)

pub returns : goal.returns
returns g c =
    let order = λ (row : g.row.T.Denot). g.T.Keyed.key_order row c.args.key.now in
    let row = c.index-rows-at.result in
    let here = ap (λ r. is_eq (order r)) (sym c.index-rows-at.is) ∙ ap is_eq (sym c.cmp_key.ensures) ∙ sym c.is_eq.ensures ∙ c.if-is_eq.false in
    sym (missed order g.T.Ordered.before (λ a b first below. g.met.T.Keyed.rises a b c.args.key.now first below) c.args.rows.now c.rows_below-at.result row c.requires.order c.rows_below-at.ensures.place (omega arith) here)
