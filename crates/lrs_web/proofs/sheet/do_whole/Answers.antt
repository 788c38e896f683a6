use Rattle.lrs_web.proofs.sheet.do_whole.Goals as goal

pub returns : goal.returns
returns g c = (c.run_sheet-ended.result, c.run_sheet-ended.new.writer.text.bytes.items, rw c.new-lines.ensures.items at c.run_sheet-ended.ensures, c.reply_after.ensures)
