use Rattle.std.proofs.Common.{List, subst}
use Rattle.lrs_measure.specs.Texts.{Name}
use Rattle.lrs_report_answers.specs.Combinations.{AreCombinationsOf}
use Rattle.lrs_report_answers.proofs.questions.combinations_by.Goals as goal

pub returns-clause-answer : goal.returns-clause-answer
returns-clause-answer c = subst (λ (names : List Name). AreCombinationsOf c.args.inventory.now c.args.route names c.combinations.result) c.as_slice.ensures c.combinations.ensures.answer
