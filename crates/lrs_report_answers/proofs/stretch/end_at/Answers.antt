use Rattle.std.proofs.Common.{ap, sym, ◌∙◌, Ok}
use Rattle.lrs_report_answers.proofs.Located.{end_is, end_is_not}
use Rattle.lrs_report_answers.proofs.stretch.end_at.Goals as goal

pub returns-in-Ok : goal.returns-in-Ok
returns-in-Ok c = ap Ok c.snap.ensures ∙ end_is c.args.row.now.route c.args.position c.locate.ensures.number c.args.end c.in-Ok.chainage c.in-Ok.ensures.answer c.in-Ok.ensures.on_route c.in-Ok.ensures.lowest

pub returns-in-Err : goal.returns-in-Err
returns-in-Err c = end_is_not c.args.row.now.route c.args.position c.locate.ensures.number c.args.end c.in-Err.fault c.in-Err.ensures.answer
