use Rattle.lrs_sheet.specs.Repetition.{HasLooked}
use Rattle.lrs_sheet.proofs.repetition.search_keys.Given as goal

abbrev pub invariant-loop-turn : goal.invariant-loop-turn
invariant-loop-turn g l = HasLooked l.fn.sheet g.R.Read.remaining l.initial.rows l.rows l.seen l.turn
