-- How a list is passed on piece by piece.
use Rattle.std.specs.Prelude.{◌≡◌, ◌==◌, ℕ, Bool, true, false, List, [], ◌∷◌, ◌++◌, Option, None, Some, if◌then◌else◌}
use Rattle.std.specs.Coded.{Coded-set, Unit-prop, coded_list, coded_ℕ, ×_prop, →_prop}
use Rattle.std.specs.Io.KnownBytes.{Appends}
use Rattle.lrs_machine.specs.Lines.{Text}
use Rattle.lrs_sheet_questions.specs.Entries.{behind_first, fronted}
use Rattle.lrs_sheet_questions.specs.Story.{start_in, story_of, text_in}
use Rattle.lrs_sheet_questions.specs.declared.stage.Stage.{Stage}
use Rattle.lrs_sheet_questions.specs.declared.stage.Stage.TheVariants.{Header, Start, Inside}

-- what is told of a text that begins at a stage
abbrev pub told_from : Text → Stage → Text → Text
told_from front Header text = fronted front true (behind_first text)
told_from front Start text = fronted front true text
told_from front Inside text = fronted front false text

-- where a line begins, and where not
abbrev pub line_stage : Bool → Stage
line_stage true = Start
line_stage false = Inside

-- the stage behind a text
abbrev pub stage_behind : Stage → Text → Stage
stage_behind Header [] = Header
stage_behind Start [] = Start
stage_behind Inside [] = Inside
stage_behind Header (byte ∷ text) = if byte == 10 then stage_behind Start text else stage_behind Header text
stage_behind Start (byte ∷ text) = stage_behind (line_stage (byte == 10)) text
stage_behind Inside (byte ∷ text) = stage_behind (line_stage (byte == 10)) text

-- the stage behind a line, of which the end may be missing
abbrev pub next_stage : Stage → Bool → Stage
next_stage stage true = Start
next_stage Header false = Header
next_stage Start false = Inside
next_stage Inside false = Inside

-- the stage behind a whole text, and what is told of it
abbrev pub stage_of : Text → Stage
stage_of text = stage_behind Header text

abbrev pub told_of : Text → Text → Text
told_of front text = told_from front Header text

-- The writer of this name holds what it held before the story, and what is told of the text in it, behind such a front.
abbrev pub HasTold : ℕ → Text → Option Text → List ℕ → Type 0
HasTold writer front now story = (story ≡ story_of writer (start_in story) front (text_in story)) × Appends (start_in story) now (told_of front (text_in story))

-- where a write failed nothing is known
abbrev pub HasToldUnlessBroken : Bool → ℕ → Text → Option Text → List ℕ → Type 0
HasToldUnlessBroken is_broken writer front now story = is_broken ≡ false → HasTold writer front now story

Appends-prop : (start now : Option Text) (text : Text) → IsProp (Appends start now text)
Appends-prop None now text = Unit-prop
Appends-prop (Some x) None text = λ h k. absurd h
Appends-prop (Some x) (Some y) text = Coded-set (coded_list coded_ℕ) y (x ++ text)

pub HasToldUnlessBroken-prop : (is_broken : Bool) (writer : ℕ) (front : Text) (now : Option Text) (story : List ℕ) → IsProp (HasToldUnlessBroken is_broken writer front now story)
HasToldUnlessBroken-prop is_broken writer front now story =
    →_prop (×_prop (Coded-set (coded_list coded_ℕ) story (story_of writer (start_in story) front (text_in story))) (Appends-prop (start_in story) now (told_of front (text_in story))))
