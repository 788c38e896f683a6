use Rattle.lrs_sheet_advice.specs.TidyReadings.{HasGivenTidy}
use Rattle.lrs_sheet_advice.proofs.tidy_sheet.sheet.are_tidy.Given as goal

abbrev pub invariant-loop-turn : goal.invariant-loop-turn
invariant-loop-turn g l = HasGivenTidy l.fn.kind g.R.Read.remaining l.initial.rows l.rows
