-- Commands that are done together: done here first, and what they change is kept then.
use Rattle.std.specs.Prelude.{◌≡◌, ◌⊎◌, ◌<◌, ◌≤◌, ℕ, List, [], ◌∷◌, ◌++◌, Option, Some, None}
use Rattle.std.specs.List.{AllByRecursion}
use Rattle.lrs_measure.specs.Texts.{Name}
use Rattle.lrs_machine.specs.declared.answer.Answer.{Answer}
use Rattle.lrs_machine.specs.declared.answer.Answer.TheVariants.{Done}
use Rattle.lrs_machine.specs.declared.answer.Limits.{Limits}
use Rattle.lrs_machine.specs.declared.command.Command.{Command}
use Rattle.lrs_machine.specs.declared.image.Image.{Image}
use Rattle.lrs_machine.specs.Image.{state_of}
use Rattle.lrs_machine.specs.Machine.{Record, step, answers, state_after}
use Rattle.lrs_image.specs.declared.change.Change.{Change}
use Rattle.lrs_image.specs.Change.{apply, CanMake}
use Rattle.lrs_image.specs.ChangeLists.{rows_in}
use Rattle.lrs_machine.specs.Stop.StoppedRuns.{IsAccepted}
use Rattle.lrs_desk.specs.Desk.{DoesFirst, IsMade, most_rows}

-- One more change is made of an image, and stands behind those made before it.
pub record IsChanged (changes changes_after : List Change) (before after : Image) : Type 0 where
  pub change : Change
  pub can : CanMake change before
  pub made : after ≡ apply change before
  pub kept : changes_after ≡ changes ++ change ∷ []

-- Nothing is changed, or one change is made.
abbrev pub MayBeChanged : List Change → List Change → Image → Image → Type 0
MayBeChanged changes changes_after before after = ((changes_after ≡ changes) × (after ≡ before)) ⊎ IsChanged changes changes_after before after

-- Another command may follow: this one was accepted, and so many rows are listed, which are not too many.
pub record MayFollow (answer : Answer) (changes : List Change) (rows : ℕ) : Type 0 where
  pub accepted : IsAccepted answer
  pub counted : rows ≡ rows_in changes
  pub few : rows ≤ most_rows

-- None follows: the command is refused; or it is done, and too many rows are listed.
abbrev pub EndsGroup : Answer → List Change → Type 0
EndsGroup answer changes = (IsAccepted answer → ⊥) ⊎ (((number : ℕ) × (answer ≡ Done number)) × (most_rows < rows_in changes))

abbrev pub GoesOnBy : Answer → List Change → Option ℕ → Type 0
GoesOnBy answer changes None = EndsGroup answer changes
GoesOnBy answer changes (Some rows) = MayFollow answer changes rows

-- A command is done behind others: its answer stands behind theirs, and so does what it changes. So many rows are listed then, if another may follow.
pub record DoesNext (limits : Limits) (key : Name) (command : Command) (before after : Image) (given given_after : List Answer) (changes changes_after : List Change) (rows : Option ℕ) : Type 0 where
  pub answered : given_after ≡ given ++ (step limits key command (state_of before)).answer ∷ []
  pub state : state_of after ≡ (step limits key command (state_of before)).state
  pub changed : MayBeChanged changes changes_after before after
  pub goes_on : GoesOnBy (step limits key command (state_of before)).answer changes_after rows

-- These commands are done and so answered, by these changes.
pub record HasDone (limits : Limits) (records : List Record) (before after : Image) (given : List Answer) (changes : List Change) : Type 0 where
  pub answered : given ≡ answers limits records (state_of before)
  pub state : state_of after ≡ state_after limits records (state_of before)
  pub made : IsMade before after changes

-- All of them were accepted, so that others may follow; without any, nothing has changed.
pub record GoesOn (limits : Limits) (records : List Record) (before after : Image) (given : List Answer) (changes : List Change) : Type 0 where
  pub done : HasDone limits records before after given changes
  pub accepted : AllByRecursion IsAccepted (answers limits records (state_of before))
  pub none : records ≡ [] → after ≡ before
  pub no_changes : records ≡ [] → changes ≡ []

-- The first of these commands are done, by these changes.
pub record IsGroup (limits : Limits) (records : List Record) (before after : Image) (given : List Answer) (changes : List Change) : Type 0 where
  pub first : DoesFirst limits records (state_of before) (state_of after) given
  pub made : IsMade before after changes
