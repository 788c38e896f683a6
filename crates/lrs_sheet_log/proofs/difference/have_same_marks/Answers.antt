use Rattle.std.specs.Prelude.{IsTrue}
use Rattle.lrs_sheet_log.proofs.Each.{lists-same, row-same}
use Rattle.lrs_sheet_log.proofs.difference.have_same_marks.Goals as goal

pub returns-then-have_same_name : goal.returns-then-have_same_name
returns-then-have_same_name c =
    let one = c.args.one.now in
    let other = c.args.other.now in
    let P : Type 0 = IsTrue c.are_each.result in
    row-same P one.route.name other.route.name one.route.marks other.route.marks (c.have_same_name.ensures.0 c.if-have_same_name.true) (lists-same P c.list.result.now c.list-then-have_same_name.result.now one.route.marks other.route.marks c.list.ensures.list c.list-then-have_same_name.ensures.list c.are_each.ensures)
