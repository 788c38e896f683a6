use Rattle.lrs_sheet_advice.proofs.WrittenLines.{advises-one}
use Rattle.lrs_sheet_advice.proofs.advice.advise.Goals as goal

pub returns : goal.returns
returns g c =
    advises-one c.write_line.result c.args.reply.now c.say_line.new.head c.say_line.new.body _ (g.W.Write.contents c.args.writer.now) (g.W.Write.contents c.write_line.new.writer)
    c.in_ok-say_line.ensures c.write_line.ensures.written
