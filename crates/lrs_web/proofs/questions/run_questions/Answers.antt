use Rattle.lrs_web.proofs.questions.run_questions.Goals as goal

pub returns : goal.returns
returns g c = (
  c.ask_all-ended.result,
  c.ask_all-ended.new.writer.text.bytes.items,
  (rw c.new-lines.ensures.items at c.ask_all-ended.ensures.runs),
  c.reply_after.ensures,
)
