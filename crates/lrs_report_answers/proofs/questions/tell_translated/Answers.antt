use Rattle.std.proofs.Common.{Ok, refl, subst}
use Rattle.lrs_machine.specs.Image.{state_of}
use Rattle.lrs_machine.specs.declared.image.Image.{Image}
use Rattle.lrs_report_answers.specs.ToldAnswers.{IsTranslated}
use Rattle.lrs_report_answers.proofs.questions.tell_translated.Goals as goal

pub returns-clause-answer : goal.returns-clause-answer
returns-clause-answer c = (
  c.in_ok-position.position,
  subst (λ (i : Image). IsTranslated (state_of i) c.args.route c.args.position c.args.target (Ok c.in_ok-position.position)) c.kept.ensures.image c.in_ok-position.ensures.answer,
  refl,
)
