use Rattle.lrs_sheet_advice.proofs.WrittenLines.{writes-parts}
use Rattle.lrs_sheet_advice.proofs.line.write_line.Goals as goal

pub returns-in-Ok-clause-written : goal.returns-in-Ok-clause-written
returns-in-Ok-clause-written g c =
    writes-parts c.args.head.now c.args.body.now c.bytes.result.now c.bytes-2.result.now (g.W.Write.contents c.args.writer.now) (g.W.Write.contents c.write_parts.new.writer)
    c.bytes.ensures.text c.bytes-2.ensures.text c.bytes.ensures.printable c.bytes-2.ensures.printable c.in-Ok.ensures
