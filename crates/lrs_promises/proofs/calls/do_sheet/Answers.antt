use Rattle.lrs_promises.proofs.Amid.{sheet_left}
use Rattle.lrs_promises.proofs.calls.do_sheet.Goals as goal

pub returns-in-Err-clause-left : goal.returns-in-Err-clause-left
returns-in-Err-clause-left g c =
    sheet_left g.K.Holder.may_hold c.args.desk.now c.run_one_by_one.new.desk c.args.kind c.args.bytes.now c.new-lines.result.items c.run_one_by_one.new.writer.items c.in-Err.fault c.run_one_by_one.result c.in-Err.is
    c.new-lines.ensures.items c.run_one_by_one.ensures
