use Rattle.std.proofs.Common.{◌++◌}
use Rattle.lrs_sheet_advice.proofs.WrittenLines.{some-line}
use Rattle.lrs_sheet_advice.proofs.whole.write_flaw.Goals as goal

pub returns : goal.returns
returns g c = some-line c.write_line.result (c.say_flaw.new.line ++ c.args.nothing.now) (g.W.Write.contents c.args.writer.now) (g.W.Write.contents c.write_line.new.writer) c.write_line.ensures.written
