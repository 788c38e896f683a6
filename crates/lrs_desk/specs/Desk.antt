-- What a desk's calls leave.
use Rattle.std.specs.Prelude.{◌≡◌, ◌⊎◌, ◌≤◌, ◌<◌, ◌+◌, ◌-◌, Bool, true, false, ℕ, Ok, Result, List, [], ◌∷◌, ◌++◌, length, map, take}
use Rattle.std.specs.List.{AllByRecursion}
use Rattle.lrs_machine.specs.declared.answer.Answer.{Answer}
use Rattle.lrs_machine.specs.declared.answer.Answer.TheVariants.{Done}
use Rattle.lrs_machine.specs.declared.answer.Limits.{Limits}
use Rattle.lrs_machine.specs.State.{State}
use Rattle.lrs_machine.specs.declared.table.Table.{Table}
use Rattle.lrs_measure.specs.Lists.{In}
use Rattle.lrs_measure.specs.Texts.{Name}
use Rattle.lrs_machine.specs.declared.command.Command.{Command}
use Rattle.lrs_machine.specs.declared.image.Image.{Image}
use Rattle.lrs_machine.specs.Image.{state_of}
use Rattle.lrs_machine.specs.Machine.{Record, answers, state_after, step}
use Rattle.lrs_machine.specs.Sound.{IsSound}
use Rattle.lrs_image.specs.declared.change.Change.{Change}
use Rattle.lrs_image.specs.ChangeLists.{apply_all, CanMakeAll, rows_in}
use Rattle.lrs_image.specs.KeeperCalls.{HasRisen, HoldsOnly}
use Rattle.lrs_machine.specs.Stop.StoppedRuns.{IsAccepted}
use Rattle.lrs_image.specs.declared.keeper.LoadFault.{LoadFault}
use Rattle.lrs_image.specs.declared.keeper.LoadFault.TheVariants as load
use Rattle.lrs_desk.specs.declared.desk.OpenFault.{OpenFault}
use Rattle.lrs_desk.specs.declared.desk.OpenFault.TheVariants as opened
use Rattle.lrs_desk.specs.DeskView.{DeskView}

-- why a desk is not opened, by why its keeper has no image
abbrev pub opened_by : LoadFault → OpenFault
opened_by load.Memory = opened.Memory
opened_by load.Store = opened.Keep
opened_by (load.Unsound t) = opened.Unsound t

-- While the desk need not be opened again, an opening finds its image and nothing else.
abbrev pub KeepsImage : {K : Type 0} → (K → Result Image Table → Type 0) → DeskView K → Type 0
KeepsImage holds desk = desk.must_reopen ≡ false → HoldsOnly (holds desk.keeper) desk.image

-- ... and does find it where the device is clean
abbrev pub FindsImage : {K : Type 0} → (K → Result Image Table → Type 0) → (K → Type 0) → DeskView K → Type 0
FindsImage holds clean desk = desk.must_reopen ≡ false → clean desk.keeper → holds desk.keeper (Ok desk.image)

-- the same image, and nothing else to be found
pub record IsUnchanged {K : Type 0} (holds : K → Result Image Table → Type 0) (old new : DeskView K) : Type 0 where
  pub image : new.image ≡ old.image
  pub content : (c : Result Image Table) → holds new.keeper c → holds old.keeper c
  pub must_reopen : new.must_reopen ≡ old.must_reopen
  pub is_ahead : new.is_ahead ≡ old.is_ahead

-- what is found is the old image, or a sound one of the state after all of these commands
abbrev pub IsOldOrNext : Limits → List Record → Image → Result Image Table → Type 0
IsOldOrNext limits records before c = (c ≡ Ok before) ⊎ ((image : Image) × (c ≡ Ok image) × (state_of image ≡ state_after limits records (state_of before)) × IsSound image)

-- The commit of a command that is done failed: what is found is the old image, or a sound one of the next state. The desk knows what it knew.
pub record HasBroken {K : Type 0} (holds : K → Result Image Table → Type 0) (key : Name) (command : Command) (old new : DeskView K) : Type 0 where
  pub done : (number : ℕ) × ((step old.limits key command (state_of old.image)).answer ≡ Done number)
  pub image : new.image ≡ old.image
  pub content : (c : Result Image Table) → holds new.keeper c → IsOldOrNext old.limits (record { key = key; command = command } ∷ []) old.image c
  pub must_reopen : new.must_reopen ≡ true
  pub is_ahead : new.is_ahead ≡ false
  pub cause : HasRisen old.failures new.failures

-- commands under keys, as the ground machine is given them
abbrev pub records_of : List (Name × Command) → List Record
records_of records = map (λ r. record { key = r.0; command = r.1 }) records

-- The first of these commands are done, one at least, and so answered; each but the last was accepted.
pub record DoesFirst (limits : Limits) (records : List Record) (before after : State) (given : List Answer) : Type 0 where
  pub some : 1 ≤ length given
  pub few : length given ≤ length records
  pub answered : given ≡ answers limits (take (length given) records) before
  pub state : after ≡ state_after limits (take (length given) records) before
  pub accepted : AllByRecursion IsAccepted (answers limits (take (length given - 1) records) before)

-- the last of these answers is a refusal
abbrev pub EndsRefused : List Answer → Type 0
EndsRefused given = (front : List Answer) × (last : Answer) × (given ≡ front ++ last ∷ []) × (IsAccepted last → ⊥)

-- the last of these answers says that a command is done
abbrev pub EndsDone : List Answer → Type 0
EndsDone given = (front : List Answer) × (number : ℕ) × (given ≡ front ++ Done number ∷ [])

-- The changes make this image, which is sound, of the one before.
pub record IsMade (before after : Image) (changes : List Change) : Type 0 where
  pub can : CanMakeAll changes before
  pub made : after ≡ apply_all changes before
  pub sound : IsSound after

-- how many rows the changes of one commit may list before its last one
abbrev pub most_rows : ℕ
most_rows = 4_096

-- all of these changes but the last one list no more
pub record AreBounded (changes : List Change) : Type 0 where
  pub front : List Change
  pub last : List Change
  pub are : changes ≡ front ++ last
  pub one : length last ≤ 1
  pub few : rows_in front ≤ most_rows

-- so of changes that make the one image of the other
abbrev pub MakesBounded : Image → Image → Type 0
MakesBounded before after = (changes : List Change) × IsMade before after changes × AreBounded changes

-- the answers end behind a command that is done, and the changes that make the one image of the other list more
abbrev pub EndsLarge : Image → Image → List Answer → Type 0
EndsLarge before after given = EndsDone given × ((changes : List Change) × IsMade before after changes × (most_rows < rows_in changes))

-- Why no more of so many commands are answered, which make the one image of the other: there are no more, or the last one is refused, or with it too many rows are listed; or memory ran out for the next one.
abbrev pub StopsBy : Bool → ℕ → Image → Image → List Answer → Type 0
StopsBy false count before after given = (length given ≡ count) ⊎ (EndsRefused given ⊎ EndsLarge before after given)
StopsBy true count before after given = length given < count

-- one of these answers says that a command is done
abbrev pub OneIsDone : List Answer → Type 0
OneIsDone given = (number : ℕ) × In (Done number) given

-- The first of these commands are in flight: their commit failed. One of them is done, each before the last was accepted, what is found is the old image or the state after all of them, and the desk's image is ahead: it is that after all of them.
pub record BreaksAmid {K : Type 0} (holds : K → Result Image Table → Type 0) (records : List Record) (old new : DeskView K) : Type 0 where
  -- how many are in flight beside the last one
  pub accepted : ℕ
  pub few : accepted < length records
  pub are_accepted : AllByRecursion IsAccepted (answers old.limits (take accepted records) (state_of old.image))
  pub done : OneIsDone (answers old.limits (take (accepted + 1) records) (state_of old.image))
  pub image : state_of new.image ≡ state_after old.limits (take (accepted + 1) records) (state_of old.image)
  pub content : (c : Result Image Table) → holds new.keeper c → IsOldOrNext old.limits (take (accepted + 1) records) old.image c
  pub must_reopen : new.must_reopen ≡ true
  pub is_ahead : new.is_ahead ≡ true
  pub cause : HasRisen old.failures new.failures
