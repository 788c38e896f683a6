use Rattle.std.proofs.Common.{Ok, refl, subst}
use Rattle.lrs_machine.specs.declared.image.Image.{Image}
use Rattle.lrs_report_answers.specs.ToldAnswers.{IsNamedRoute}
use Rattle.lrs_report_answers.proofs.questions.tell_route.Goals as goal

pub returns-clause-answer : goal.returns-clause-answer
returns-clause-answer c = (
  c.in_ok-route.route,
  subst (λ (i : Image). IsNamedRoute i c.args.name (Ok c.in_ok-route.route)) c.kept.ensures.image c.in_ok-route.ensures,
  refl,
)
