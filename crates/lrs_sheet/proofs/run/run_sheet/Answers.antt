use Rattle.lrs_sheet.proofs.Running.{whole-run}
use Rattle.lrs_sheet.proofs.run.run_sheet.Goals as goal

pub returns : goal.returns
returns g c = whole-run c.args.sheet c.args.together (g.R.Read.remaining c.args.reader) c.args.desk.now c.run_behind.new.desk (g.W.Write.contents c.args.writer.now) (g.W.Write.contents c.run_behind.new.writer) c.run_behind.result c.run_behind.ensures
