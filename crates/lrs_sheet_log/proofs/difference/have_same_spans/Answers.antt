use Rattle.std.specs.Prelude.{IsTrue}
use Rattle.lrs_sheet_log.proofs.Each.{lists-same, row-same}
use Rattle.lrs_sheet_log.proofs.difference.have_same_spans.Goals as goal

pub returns-then-have_same_name : goal.returns-then-have_same_name
returns-then-have_same_name c =
    let one = c.args.one.now in
    let other = c.args.other.now in
    let P : Type 0 = IsTrue c.are_each.result in
    row-same P one.route.name other.route.name one.spans other.spans (c.have_same_name.ensures.0 c.if-have_same_name.true) (lists-same P c.rows.result.now c.rows-then-have_same_name.result.now one.spans other.spans c.rows.ensures.rows c.rows-then-have_same_name.ensures.rows c.are_each.ensures)
