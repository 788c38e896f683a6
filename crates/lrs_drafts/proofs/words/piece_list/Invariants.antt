use Rattle.lrs_sheet_records.proofs.Wording.{HasTaken}
use Rattle.lrs_sheet_records.specs.Words.{IsPieceText}
use Rattle.lrs_drafts.proofs.words.piece_list.Given as goal

abbrev pub invariant-loop-turn : goal.invariant-loop-turn
invariant-loop-turn l = HasTaken IsPieceText l.text l.rest l.list.items l._turn
