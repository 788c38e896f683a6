use Rattle.lrs_cli_sheets.proofs.Between.{keeps-same}
use Rattle.lrs_cli_sheets.proofs.BetweenQuestions.{asked-between}
use Rattle.lrs_cli_sheets.proofs.question_sheets.answer_sheet.Goals as goal

pub returns-clause-asked : goal.returns-clause-asked
returns-clause-asked g c =
    asked-between c.args.desk.now.image (g.S.Read.remaining c.args.sheet) _ _ _ _ _
    (keeps-same _ _ c.in_ok-writer.ensures.same) c.in_ok-behind.ensures.same c.ask-outcome.ensures
