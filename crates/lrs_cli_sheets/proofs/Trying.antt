-- A sheet that is tried at a copy of an inventory, and one whose bytes were read.
use Rattle.std.proofs.Common.{◌≡◌, ◌∙◌, ◌⊎◌, ℕ, Bool, true, false, true≢false, List, Option, Some, None, Result, Ok, Err, IfOk, IfSome, refl, subst, sym, inl, inr}
use Rattle.std.specs.Io.KnownBytes.{Appends}
use Rattle.lrs_difference.specs.Text.{difference_text}
use Rattle.lrs_machine.specs.Image.{state_of}
use Rattle.lrs_machine.specs.Sound.{IsSound}
use Rattle.lrs_machine.specs.State.{State}
use Rattle.lrs_machine.specs.declared.image.Image.{Image}
use Rattle.lrs_machine.specs.declared.table.Table.{Table}
use Rattle.lrs_sheet.specs.DeskView.{DeskView}
use Rattle.lrs_sheet_records.specs.declared.sheet.Sheet.{Sheet}
use Rattle.lrs_sheet_records.specs.declared.fault.SheetFault.{SheetFault}
use Rattle.lrs_sheet.specs.declared.reply.Tally.{Tally}
use Rattle.lrs_cli_tasks.specs.declared.endings.Ending.{Ending}
use Rattle.lrs_cli_tasks.specs.declared.endings.Ending.TheVariants.{Stopped}
use Rattle.lrs_cli_tasks.specs.declared.fault.ProgramFault.{ProgramFault}
use Rattle.lrs_cli_tasks.specs.declared.fault.ProgramFault.TheVariants as program
use Rattle.lrs_cli_sheets.specs.declared.sheets.Way.{Way}
use Rattle.lrs_cli_sheets.specs.Sheets.{EndsSheet, HasRun, ending_of_sheet, is_cut_off}
use Rattle.lrs_cli_sheets.specs.Trials.{EndsAll, EndsCheck, EndsConfirmed, EndsGiven, EndsRecords, HasTried, IsTried}

-- A sheet that was tried at a copy of this image, and what is told of it.
module _ (kind : Sheet) (text : List ℕ) (image copy made : Image) (replies : List ℕ) (outcome : Result Tally SheetFault) (same : copy ≡ image) (tried : IsTried kind 0 text (state_of copy) (state_of made) replies outcome) where
  from_image : IsTried kind 0 text (state_of image) (state_of made) replies outcome
  from_image = subst (λ (i : Image). IsTried kind 0 text (state_of i) (state_of made) replies outcome) same tried

  pub replies_told : {W : Type 0} (contents : W → Option (List ℕ)) (differs : Bool) (old : Option (List ℕ)) (result : Result (W × Ending) ProgramFault) → differs ≡ false
      → IfOk result (λ done. Appends old (contents done.0) replies) → IfOk result (λ done. done.1 ≡ ending_of_sheet outcome)
      → IfOk result (λ done. EndsCheck kind differs (Some text) image old (contents done.0) done.1)
  replies_told contents true old result is written ends = absurd (true≢false is)
  replies_told contents false old (Ok done) is written ends =
      inl (record { text = text; is_text = refl; replies = replies; outcome = outcome; tried = (state_of made, from_image); written = written; ends = ends })
  replies_told contents false old (Err fault) is written ends = tt

  pub difference_told : {W : Type 0} (contents : W → Option (List ℕ)) (differs : Bool) (old : Option (List ℕ)) (result : Result (W × Ending) ProgramFault) → differs ≡ true
      → IsSound made → IfOk result (λ done. (Appends old (contents done.0) (difference_text image made) × (done.1 ≡ ending_of_sheet outcome)) ⊎ ((contents done.0 ≡ old) × (done.1 ≡ Stopped program.Memory)))
      → IfOk result (λ done. EndsCheck kind differs (Some text) image old (contents done.0) done.1)
  difference_told contents false old result is sound told = absurd (true≢false (sym is))
  difference_told contents true old (Ok done) is sound (inl (written, ends)) =
      inl (record { text = text; is_text = refl; made = made; sound = sound; replies = replies; outcome = outcome; tried = from_image; written = written; ends = ends })
  difference_told contents true old (Ok done) is sound (inr (same, memory)) = inr (same, inl memory)
  difference_told contents true old (Err fault) is sound told = tt

-- what is checked at a copy of an inventory's image is checked at the inventory
pub checked_at : {W : Type 0} (contents : W → Option (List ℕ)) (kind : Sheet) (differs : Bool) (known : Option (List ℕ)) (image other : Image) (old : Option (List ℕ)) (result : Result (W × Ending) ProgramFault) → image ≡ other
    → IfOk result (λ done. EndsCheck kind differs known image old (contents done.0) done.1) → IfOk result (λ done. EndsCheck kind differs known other old (contents done.0) done.1)
checked_at contents kind differs known image other old result same = subst (λ (i : Image). IfOk result (λ done. EndsCheck kind differs known image old (contents done.0) done.1) → IfOk result (λ done. EndsCheck kind differs known i old (contents done.0) done.1)) same (λ ends. ends)

-- what was tried, whatever the copy is then
pub has_tried : {X E : Type 0} (replies : X → List ℕ) (outcome : X → Result Tally SheetFault) (kind : Sheet) (passed : ℕ) (text : List ℕ) (image : Image) (after : State) (result : Result X E)
    → IfOk result (λ trial. IsTried kind passed text (state_of image) after (replies trial) (outcome trial)) → IfOk result (λ trial. HasTried kind passed text image (replies trial) (outcome trial))
has_tried replies outcome kind passed text image after (Ok trial) tried = (after, tried)
has_tried replies outcome kind passed text image after (Err fault) tried = tt

-- ... and so is what is tried
pub tried_at : {X E : Type 0} (replies : X → List ℕ) (outcome : X → Result Tally SheetFault) (kind : Sheet) (passed : ℕ) (text : List ℕ) (image other : Image) (result : Result X E) → image ≡ other
    → IfOk result (λ trial. HasTried kind passed text image (replies trial) (outcome trial)) → IfOk result (λ trial. HasTried kind passed text other (replies trial) (outcome trial))
tried_at replies outcome kind passed text image other result same = subst (λ (i : Image). IfOk result (λ trial. HasTried kind passed text image (replies trial) (outcome trial)) → IfOk result (λ trial. HasTried kind passed text i (replies trial) (outcome trial))) same (λ tried. tried)

-- a text that is another's, where that is known
pub is_known : (text read : List ℕ) (known : Option (List ℕ)) → IfSome known (λ t. read ≡ t) → text ≡ read → IfSome known (λ t. text ≡ t)
is_known text read None is same = tt
is_known text read (Some t) is same = same ∙ is

module _ {K : Type 0} (holds : K → Result Image Table → Type 0) (kind : Sheet) (resumes : Bool) (read : List ℕ) (known : Option (List ℕ)) (is : IfSome known (λ t. read ≡ t)) (before after : DeskView K) (old : Option (List ℕ)) where
  all_known : (new : Option (List ℕ)) (ending : Ending) → EndsAll holds kind resumes (Some read) before after old new ending → EndsAll holds kind resumes known before after old new ending
  all_known new ending (inl done) = inl (record {
    text = done.text;
    is_text = is_known done.text read known is done.is_text;
    passed = done.passed;
    are_passed = done.are_passed;
    replies = done.replies;
    outcome = done.outcome;
    tried = done.tried;
    accepted = done.accepted;
    pace = done.pace;
    ran = done.ran;
  })
  all_known new ending (inr (inl refused)) = inr (inl (record {
    text = refused.text;
    is_text = is_known refused.text read known is refused.is_text;
    passed = refused.passed;
    are_passed = refused.are_passed;
    replies = refused.replies;
    outcome = refused.outcome;
    tried = refused.tried;
    refused = refused.refused;
    same = refused.same;
    unwritten = refused.unwritten;
    ends = refused.ends;
  }))
  all_known new ending (inr (inr (same, unwritten, inl failed))) = inr (inr (same, unwritten, inl failed))
  all_known new ending (inr (inr (same, unwritten, inr (goes_on, (text, is_text, fault, why, ends))))) =
      inr (inr (same, unwritten, inr (goes_on, (text, is_known text read known is is_text, fault, why, ends))))

  -- a sheet whose bytes were read is done as the sheet of its name
  pub all_as_named : {W : Type 0} (contents : W → Option (List ℕ)) (result : Result (W × Ending) ProgramFault) → IfOk result (λ done. EndsAll holds kind resumes (Some read) before after old (contents done.0) done.1)
      → IfOk result (λ done. EndsAll holds kind resumes known before after old (contents done.0) done.1)
  all_as_named contents (Ok done) ends = all_known (contents done.0) done.1 ends
  all_as_named contents (Err fault) ends = tt

-- what is so of the bytes that were read is so of the text, where that is known
if_known : (P : List ℕ → Type 0) (read : List ℕ) (known : Option (List ℕ)) → IfSome known (λ t. read ≡ t) → P read → IfSome known P
if_known P read None is holds = tt
if_known P read (Some t) is holds = subst P is holds

-- a run of the bytes that were read is one of the text, where that is known
run_known : {K : Type 0} (holds : K → Result Image Table → Type 0) (way : Way) (read : List ℕ) (known : Option (List ℕ)) (before after : DeskView K) (old new : Option (List ℕ)) (outcome : Result Tally SheetFault)
    → IfSome known (λ t. read ≡ t) → HasRun holds way (Some read) before after old new outcome → HasRun holds way known before after old new outcome
run_known holds way read None before after old new outcome is ran = record {
  runs = tt;
  desk = ran.desk;
  broken = λ failed c found. tt;
  still = ran.still;
  left = ran.left;
  kept = ran.kept;
  amid = ran.amid;
}
run_known holds way read (Some t) before after old new outcome is ran = subst (λ (x : List ℕ). HasRun holds way (Some x) before after old new outcome) is ran

module _ {K : Type 0} (holds : K → Result Image Table → Type 0) (kind : Sheet) (read : List ℕ) (known : Option (List ℕ)) (is : IfSome known (λ t. read ≡ t)) (before after : DeskView K) (old : Option (List ℕ)) where
  sheet_known : (resumes : Bool) (new : Option (List ℕ)) (ending : Ending) → EndsSheet holds kind resumes (Some read) before after old new ending → EndsSheet holds kind resumes known before after old new ending
  sheet_known false new ending (inl (pace, ran)) = inl (pace, record { outcome = ran.outcome; ran = run_known holds (record { kind = kind; pace = pace; passed = 0 }) read known before after old new ran.outcome is ran.ran; ends = ran.ends })
  sheet_known false new ending (inr unopened) = inr unopened
  sheet_known true new ending (inl done) = inl (record {
    text = done.text;
    is_text = is_known done.text read known is done.is_text;
    passed = done.passed;
    goes_on = done.goes_on;
    pace = done.pace;
    ran = done.ran;
  })
  sheet_known true new ending (inr (inl (same, unwritten, (text, is_text, fault, why, ends)))) = inr (inl (same, unwritten, (text, is_known text read known is is_text, fault, why, ends)))
  sheet_known true new ending (inr (inr unopened)) = inr (inr unopened)

  given_known : (resumes all : Bool) (new : Option (List ℕ)) (ending : Ending) → EndsGiven holds kind resumes all (Some read) before after old new ending → EndsGiven holds kind resumes all known before after old new ending
  given_known resumes false new ending ends = sheet_known resumes new ending ends
  given_known resumes true new ending ends = all_known holds kind resumes read known is before after old new ending ends

  records_known : (resumes all : Bool) (new : Option (List ℕ)) (ending : Ending) → EndsRecords holds kind resumes all true (Some read) before after old new ending → EndsRecords holds kind resumes all true known before after old new ending
  records_known resumes all new ending (inl unopened) = inl unopened
  records_known resumes all new ending (inr (inl (cut, same, unwritten, ends))) = inr (inl (if_known (λ t. is_cut_off t ≡ true) read known is cut, same, unwritten, ends))
  records_known resumes all new ending (inr (inr (uncut, ends))) = inr (inr (if_known (λ t. is_cut_off t ≡ false) read known is uncut, given_known resumes all new ending ends))

  any_known : (resumes all whole : Bool) (new : Option (List ℕ)) (ending : Ending) → EndsRecords holds kind resumes all whole (Some read) before after old new ending → EndsRecords holds kind resumes all whole known before after old new ending
  any_known resumes all false new ending ends = given_known resumes all new ending ends
  any_known resumes all true new ending ends = records_known resumes all new ending ends

  confirmed_known : (answer : Option (List ℕ)) (resumes all whole : Bool) (new : Option (List ℕ)) (ending : Ending) → EndsConfirmed holds answer true kind resumes all whole (Some read) before after old new ending → EndsConfirmed holds answer true kind resumes all whole known before after old new ending
  confirmed_known answer resumes all whole new ending (inl (said, ends)) = inl (said, any_known resumes all whole new ending ends)
  confirmed_known answer resumes all whole new ending (inr undone) = inr undone

  -- a sheet whose bytes were read is gone on with as the sheet of its name
  pub resumed_as_named : {W : Type 0} (contents : W → Option (List ℕ)) (result : Result (W × Ending) ProgramFault) → IfOk result (λ done. EndsSheet holds kind true (Some read) before after old (contents done.0) done.1)
      → IfOk result (λ done. EndsSheet holds kind true known before after old (contents done.0) done.1)
  resumed_as_named contents (Ok done) ends = sheet_known true (contents done.0) done.1 ends
  resumed_as_named contents (Err fault) ends = tt

  -- and so it is done where it has to be whole
  pub whole_as_named : {W : Type 0} (contents : W → Option (List ℕ)) (resumes all : Bool) (result : Result (W × Ending) ProgramFault)
      → IfOk result (λ done. EndsRecords holds kind resumes all true (Some read) before after old (contents done.0) done.1)
      → IfOk result (λ done. EndsRecords holds kind resumes all true known before after old (contents done.0) done.1)
  whole_as_named contents resumes all (Ok done) ends = records_known resumes all (contents done.0) done.1 ends
  whole_as_named contents resumes all (Err fault) ends = tt

  -- and so it is done where that is asked for
  pub confirmed_as_named : {W : Type 0} (contents : W → Option (List ℕ)) (answer : Option (List ℕ)) (resumes all whole : Bool) (result : Result (W × Ending) ProgramFault)
      → IfOk result (λ done. EndsConfirmed holds answer true kind resumes all whole (Some read) before after old (contents done.0) done.1)
      → IfOk result (λ done. EndsConfirmed holds answer true kind resumes all whole known before after old (contents done.0) done.1)
  confirmed_as_named contents answer resumes all whole (Ok done) ends = confirmed_known answer resumes all whole (contents done.0) done.1 ends
  confirmed_as_named contents answer resumes all whole (Err fault) ends = tt
