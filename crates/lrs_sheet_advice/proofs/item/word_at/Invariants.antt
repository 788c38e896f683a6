use Rattle.std.proofs.Common.{◌≡◌, ◌-◌}
use Rattle.std.specs.Prelude.{slice_get}
use Rattle.lrs_sheet_records.specs.Words.{parts_of}
use Rattle.lrs_sheet_advice.proofs.item.word_at.Given as goal

abbrev pub invariant-loop-turn : goal.invariant-loop-turn
invariant-loop-turn l = slice_get (parts_of l.fn.byte l.rest) (l.fn.place - l.turn) ≡ slice_get (parts_of l.fn.byte l.fn.text) l.fn.place
