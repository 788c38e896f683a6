use Rattle.lrs_cli_sheets.proofs.Trying.{all_as_named, is_known}
use Rattle.lrs_cli_sheets.proofs.trial.do_all.Goals as goal

pub returns-in-Ok-clause-ended : goal.returns-in-Ok-clause-ended
returns-in-Ok-clause-ended g c =
    let known = g.S.Sheets.text_of c.args.world.now.sheets.now c.args.name.now in
    all_as_named g.K.Holder.may_hold c.args.kind c.args.resumes c.as_slice.result.now known (is_known _ c.in-Ok.text.items known c.in-Ok.ensures c.as_slice.ensures.value)
    c.args.desk.now c.do_text.new.desk (g.W.Write.contents c.args.to) {W = g.row.W.Denot} g.W.Write.contents c.do_text.result c.do_text.ensures.ended
