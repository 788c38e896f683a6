-- What the program prints for the sum of a log, and how it ends.
use Rattle.std.specs.Prelude.{◌≡◌, ℕ, nat_le, if◌then◌else◌, List, [], ◌∷◌, Option, Some, None, length, take}
use Rattle.std.specs.Fmt.{decimal}
use Rattle.std.specs.Io.KnownBytes.{Appends}
use Rattle.lrs_machine.specs.Image.{state_of}
use Rattle.lrs_machine.specs.Lines.{Text}
use Rattle.lrs_machine.specs.State.{Edit}
use Rattle.lrs_machine.specs.declared.absence.Missing.TheVariants as missing
use Rattle.lrs_machine.specs.declared.image.Image.{Image}
use Rattle.lrs_report_answers.specs.declared.cause.AskCause.TheVariants as cause
use Rattle.lrs_sheet_log.specs.Sums.{sum_of}
use Rattle.lrs_cli_tasks.specs.Lines.{line_of}
use Rattle.lrs_cli_tasks.specs.declared.endings.Ending.{Ending}
use Rattle.lrs_cli_tasks.specs.declared.endings.Ending.TheVariants.{Done, QuestionRefused}

-- how many edits are summed: as many as are wanted, or all that there are; none where more are wanted
abbrev pub summed_count : Option ℕ → ℕ → Option ℕ
summed_count None there = Some there
summed_count (Some wanted) there = if nat_le wanted there then Some wanted else None

-- a number, and the sum of so many of these edits
abbrev pub sum_line : ℕ → List Edit → Text
sum_line count edits = line_of (decimal count ∷ sum_of (take count edits) ∷ [])

-- the line of so many edits was written; or nothing was, since there is no such edit
abbrev pub EndsSumOf : List Edit → Option ℕ → Option Text → Option Text → Ending → Type 0
EndsSumOf edits (Some count) old new ending = (ending ≡ Done) × Appends old new (sum_line count edits)
EndsSumOf edits None old new ending = (ending ≡ QuestionRefused (cause.Missing missing.Edit)) × (new ≡ old)

-- The sum of an inventory's log was written, all of it or up to the wanted edit; where there is none of this number, nothing was.
abbrev pub EndsSum : Image → Option ℕ → Option Text → Option Text → Ending → Type 0
EndsSum i wanted = EndsSumOf (state_of i).done (summed_count wanted (length i.edits))
