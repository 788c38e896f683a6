-- The checks of the pieces and of the marks of a route, and what they give where they pass.
use Rattle.std.specs.Prelude.{ℕ, List, Result, Ok}
use Rattle.lrs_inventory.specs.Prelude.{Piece, Ground, Mark, course_of, is_too_long, Cause, ◌>>◌, State}
use Rattle.lrs_machine.specs.declared.answer.Cause.TheVariants as cause
use Rattle.lrs_machine.specs.Machine.{refuse_if, check_pieces, check_marks}

-- The course of these pieces.
abbrev pub new_course : State → List Piece → Result (List Ground) Cause
new_course s pieces = do
  check_pieces s pieces
  refuse_if (is_too_long (course_of pieces)) cause.TooLong
  Ok (course_of pieces)

-- These marks, for a course of this length.
abbrev pub new_marks : ℕ → List Mark → Result (List Mark) Cause
new_marks len marks = do
  check_marks len marks
  Ok marks
