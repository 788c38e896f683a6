use Rattle.lrs_sheet_questions.proofs.list.given_to.Given as goal

abbrev pub ghost-new : goal.ghost-new
ghost-new g a = g.story
