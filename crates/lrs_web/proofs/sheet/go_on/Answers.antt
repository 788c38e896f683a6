use Rattle.std.proofs.Common.{Ok, Err, inl}
use Rattle.lrs_web.proofs.sheet.go_on.Goals as goal

pub returns-in-Ok : goal.returns-in-Ok
returns-in-Ok g c = inl (Ok c.in-Ok.tally, c.resume_sheet.new.writer.text.bytes.items, rw c.new-lines.ensures.items at c.in-Ok.ensures, c.reply_after.ensures)

pub returns-in-Err-Sheet : goal.returns-in-Err-Sheet
returns-in-Err-Sheet g c = inl (Err c.in-Err-Sheet.fault, c.resume_sheet.new.writer.text.bytes.items, rw c.new-lines.ensures.items at (rw c.in-Err-Sheet.field-0-is at c.in-Err-Sheet.ensures), c.reply_after-in-Err-Sheet.ensures)
