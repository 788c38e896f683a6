use Rattle.lrs_machine.specs.Image.{state_of}
use Rattle.lrs_sheet.specs.Resumption.{HasSearched}
use Rattle.lrs_sheet.proofs.resumption.search.Given as goal

abbrev pub invariant-loop-turn : goal.invariant-loop-turn
invariant-loop-turn g l = HasSearched l.fn.sheet g.R.Read.remaining l.initial.rows l.rows (state_of l.fn.desk.image) l.decided l.turn
