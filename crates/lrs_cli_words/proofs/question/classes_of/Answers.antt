use Rattle.std.proofs.Common.{inr}
use Rattle.lrs_cli_words.proofs.ClassesRead.{class_at}
use Rattle.lrs_cli_words.proofs.question.classes_of.Goals as goal

pub returns-in-Err-clause-unread : goal.returns-in-Err-clause-unread
returns-in-Err-clause-unread c = inr (class_at c.args.texts.now c.loop-text.text-index _ c.in-Err.fault c.loop-text-test.true c.in-Err.ensures.unread)
