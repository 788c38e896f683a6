use Rattle.lrs_sheet_questions.specs.Rows.{HasAnswered}
use Rattle.lrs_sheet_questions.proofs.run.ask_rows.Given as goal

abbrev pub invariant-loop-turn : goal.invariant-loop-turn
invariant-loop-turn g l = HasAnswered l.fn.desk.image g.R.Read.remaining l.initial.rows l.rows (g.W.Write.contents l.initial.writer) (g.W.Write.contents l.writer) l.tally l._turn
