-- Too long: more pieces or more marks than a route can have. The states are made by hand, for that many pieces are too costly to be entered by commands.
use Rattle.std.specs.Prelude.{◌≡◌, ℕ, ◌+◌, true, false, List, [], ◌∷◌, ◌++◌, map, replicate, refl}
use Rattle.std.specs.List.{range_with_len}
use Rattle.std.specs.Fmt.{digits}
use Rattle.lrs_measure.specs.Texts.{Name}
use Rattle.lrs_element.specs.declared.link.Piece.{Piece}
use Rattle.lrs_element.specs.declared.marks.Mark.{Mark}
use Rattle.lrs_element.specs.Course.{course_of, is_too_long}
use Rattle.lrs_position.specs.Locations.{Alignment}
use Rattle.lrs_machine.specs.declared.answer.Answer.TheVariants.{Done, Refused}
use Rattle.lrs_machine.specs.declared.answer.Cause.TheVariants as cause
use Rattle.lrs_machine.specs.declared.command.Command.TheVariants as verb
use Rattle.lrs_machine.specs.State.{State, nothing_known}
use Rattle.lrs_machine.specs.Machine.{answers, attempt, step}
use Rattle.lrs_examples.specs.Sheet.{a1, a2, b1, forth, back, mark, plain, realign, full, keyed, replies, alignment, sheet}

-- this many pieces of one millimetre, each run backwards, in rising order: none continues the one before it
abbrev pub broken : ℕ → List Piece
broken count = map (λ k. back 1 k (k + 1)) (range_with_len 0 count)

-- A thousand pieces are not too many, and one more is; pieces that continue each other count as one.
pub too_many_pieces : map (λ pieces. is_too_long (course_of pieces)) (broken 1_000 ∷ broken 1_001 ∷ (broken 1_000 ++ back 2 1 2 ∷ []) ∷ (broken 999 ++ back 2 1 2 ∷ back 2 0 1 ∷ []) ∷ [])
    ≡ false ∷ true ∷ true ∷ false ∷ []
too_many_pieces = refl

-- a state of links and routes alone
abbrev pub roads : List (Name × Alignment) → State
roads routes = record nothing_known { links = record { rows = (1, 1_100) ∷ (2, 600) ∷ (3, 600) ∷ [] }; routes = record { rows = routes } }

-- a route in a thousand pieces, and one in a single piece
abbrev pub most_broken : State
most_broken = roads ((a1, alignment (broken 1_000) (plain 1_000)) ∷ (b1, alignment (forth 2 0 1 ∷ []) (plain 1)) ∷ [])

-- No route is joined to a thousand pieces, and no piece is put in; but one may take the place of another.
pub one_piece_more : answers full (keyed 0 (
    verb.Join a1 b1 ∷ realign 0 0 (forth 2 2 3 ∷ []) (plain 1_001) ∷ realign 0 1 (forth 2 2 3 ∷ []) (plain 1_000) ∷ [])) most_broken
    ≡ Refused cause.TooLong ∷ Refused cause.TooLong ∷ Done 1 ∷ []
unfolding digits step attempt
one_piece_more = refl

-- Taken ground is named before the length, and the length before bad marks.
pub order_of_too_long : answers full (keyed 0 (realign 0 0 (forth 2 0 1 ∷ []) (plain 1) ∷ realign 0 0 (forth 2 2 3 ∷ []) (plain 1) ∷ [])) most_broken
    ≡ Refused (cause.Taken 0) ∷ Refused cause.TooLong ∷ []
unfolding digits step attempt
order_of_too_long = refl

-- The last piece of the one goes on in the first of the other: together they are a thousand.
pub pieces_that_merge : answers full (keyed 0 (verb.Join a1 b1 ∷ [])) (
    roads ((a1, alignment (broken 999 ++ forth 2 0 1 ∷ []) (plain 1_000)) ∷ (b1, alignment (forth 2 1 2 ∷ []) (plain 1)) ∷ []))
    ≡ Done 1 ∷ []
unfolding digits step attempt
pieces_that_merge = refl

-- this many marks, one for each millimetre, measured from here
abbrev pub dense : ℕ → ℕ → List Mark
dense count from = map (λ k. mark k (from + k)) (range_with_len 0 count)

-- three routes with 501, 501 and 500 marks, the first up to the greatest measure
abbrev pub many_marks : State
many_marks = roads (
    (a1, alignment (forth 1 0 500 ∷ []) (dense 501 99_999_999_500))
    ∷ (a2, alignment (forth 2 0 500 ∷ []) (dense 501 0))
    ∷ (b1, alignment (forth 3 0 499 ∷ []) (dense 500 0)) ∷ [])

-- At the seam two marks become one, so 501 and 500 marks are a thousand; too many are named before too high a measure.
pub joined_mark_counts : answers full (keyed 0 (verb.Join a1 a2 ∷ verb.Join a1 b1 ∷ verb.Join a2 b1 ∷ [])) many_marks
    ≡ Refused cause.TooLong ∷ Refused cause.MeasureRange ∷ Done 1 ∷ []
unfolding digits step attempt
joined_mark_counts = refl

-- Of too many marks the first that is too many is named, whatever the others are.
pub too_many_marks : replies sheet (verb.Recalibrate a1 (replicate 1_001 (mark 1 0)) ∷ []) ≡ Refused (cause.BadMarks 1_000) ∷ []
unfolding digits step attempt
too_many_marks = refl
