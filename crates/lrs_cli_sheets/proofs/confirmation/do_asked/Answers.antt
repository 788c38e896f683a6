use Rattle.std.proofs.Common.{codes}
use Rattle.lrs_cli_sheets.proofs.Trying.{confirmed_as_named, is_known}
use Rattle.lrs_cli_sheets.proofs.confirmation.do_asked.Goals as goal

pub returns-in-Ok-clause-ended : goal.returns-in-Ok-clause-ended
returns-in-Ok-clause-ended g c =
    let known = g.S.Sheets.text_of c.args.world.now.sheets.now c.args.name.now in
    confirmed_as_named g.K.Holder.may_hold c.args.kind c.as_slice-text.result.now known (is_known _ c.in-Ok.text.items known c.in-Ok.ensures c.as_slice-text.ensures.value)
    c.args.desk.now c.do_asked_text.new.desk (g.W.Write.contents c.args.to) {W = g.row.W.Denot} g.W.Write.contents (g.S.Sheets.text_of c.args.world.now.sheets.now (codes "stdin")) c.args.resumes c.args.all c.args.whole c.do_asked_text.result c.do_asked_text.ensures.ended
