use Rattle.std.proofs.Common.{◌≡◌, ◌+◌, ℕ}
use Rattle.std.specs.Prelude.{slice_get}
use Rattle.lrs_sheet_records.specs.Words.{parts_of}
use Rattle.lrs_sheet_advice.proofs.item.first_bad_word.Given as goal

-- what is left of a list has the same words, so many places further
abbrev pub invariant-loop-place : goal.invariant-loop-place
invariant-loop-place l = (i : ℕ) → slice_get (parts_of 32 l.rest) i ≡ slice_get (parts_of 32 l.fn.text) (l.place + i)
