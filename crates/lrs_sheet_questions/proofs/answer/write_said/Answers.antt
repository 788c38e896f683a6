use Rattle.std.proofs.Common.{refl, ap, sym, ◌∙◌}
use Rattle.std.specs.Prelude.{option_map}
use Rattle.lrs_report_answers.specs.Causes.{cause_text}
use Rattle.lrs_sheet_questions.specs.Lines.{told_lines}
use Rattle.lrs_sheet_questions.specs.Replies.{answered, refused, reply_of}
use Rattle.lrs_sheet_questions.proofs.answer.write_said.Goals as goal

pub returns-in_ok-write_answer-in-Ok-clause-written : goal.returns-in_ok-write_answer-in-Ok-clause-written
returns-in_ok-write_answer-in-Ok-clause-written g c = (answered (told_lines c.args.key c.in-Ok.told), ap (reply_of c.args.key) c.in-Ok.is, refl, c.in_ok-write_answer-in-Ok.ensures.written)

pub returns-in-Ok-write_refused-clause-written : goal.returns-in-Ok-write_refused-clause-written
returns-in-Ok-write_refused-clause-written g c = (
  refused c.args.key (cause_text c.in-Some.cause),
  ap (reply_of c.args.key) c.in-Err.is ∙ ap (option_map (λ cause. refused c.args.key (cause_text cause))) (sym c.cause_of.ensures ∙ c.in-Some.is),
  refl,
  c.in-Ok-write_refused.ensures,
)
