use Rattle.lrs_cli_sheets.proofs.Trying.{is_known, resumed_as_named}
use Rattle.lrs_cli_sheets.proofs.sheets.go_on.Goals as goal

pub returns-in-Ok-clause-ended : goal.returns-in-Ok-clause-ended
returns-in-Ok-clause-ended g c =
    let known = g.S.Sheets.text_of c.args.world.now.sheets.now c.args.name.now in
    resumed_as_named g.K.Holder.may_hold c.args.kind c.as_slice.result.now known (is_known _ c.in-Ok.text.items known c.in-Ok.ensures c.as_slice.ensures.value)
    c.args.desk.now c.go_on_with.new.desk (g.W.Write.contents c.args.to) {W = g.row.W.Denot} g.W.Write.contents c.go_on_with.result c.go_on_with.ensures.ended
