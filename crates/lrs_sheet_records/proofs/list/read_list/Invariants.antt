use Rattle.lrs_sheet_records.proofs.Wording.{HasTaken}
use Rattle.lrs_sheet_records.proofs.list.read_list.Given as goal

abbrev pub invariant-loop-turn : goal.invariant-loop-turn
invariant-loop-turn g l = HasTaken g.T.Word.says l.fn.text l.rest l.list.items l._turn
