-- Runs that stop: what each step does to what is stored, and to the state on which the open desk acts.
use Rattle.std.specs.Prelude.{◌≡◌, ◌⊎◌, List, [], ◌∷◌, ◌++◌, Option, Some, None}
use Rattle.std.specs.List.{AllByRecursion}
use Rattle.lrs_machine.specs.declared.answer.Answer.{Answer}
use Rattle.lrs_machine.specs.declared.answer.Answer.TheVariants.{Done, Again, Refused}
use Rattle.lrs_machine.specs.declared.answer.Limits.{Limits}
use Rattle.lrs_machine.specs.State.{State}
use Rattle.lrs_machine.specs.Machine.{Record, step_record, answers, state_after}

-- What happens to an inventory that is stored, one thing after another.
pub data Step : Type 0 where
  -- the store is opened, and a desk acts on what is found
  Open : Step
  -- a command is sent and gets its answer
  Act : Record → Answer → Step
  -- a command is sent, and it is told that it was not acted on: memory was lacking, or no desk acts until the store is opened
  Unserved : Record → Step
  -- Commands are sent together, one after another, and the program stops or the store fails before any of them has its answer: they are in flight. Those before the last were accepted.
  StopWithin : List Record → Record → Step
  -- the program stops between two commands or within an opening, or an opening fails
  Stop : Step

-- What there is between two steps.
pub record Moment : Type 0 where
  -- the state that is stored, which an opening would find
  pub stored : State
  -- the state on which the open desk acts; none where no desk is open, or where the store has to be opened again
  pub desk : Option State

-- stored, and no desk is open
abbrev pub at_rest : State → Moment
at_rest s = record { stored = s; desk = None }

-- an opening: the desk acts on what is stored
pub record Opens (before after : Moment) : Type 0 where
  pub closed : before.desk ≡ None
  pub stored : after.stored ≡ before.stored
  pub desk : after.desk ≡ Some before.stored

-- A command gets its answer: the ground machine's, and the next state is stored by then. (For any answer but Done that is the state as it was.)
pub record Acts (limits : Limits) (r : Record) (answer : Answer) (before after : Moment) : Type 0 where
  pub known : State
  pub acts_on : before.desk ≡ Some known
  pub answered : answer ≡ (step_record limits r known).answer
  pub stored : after.stored ≡ (step_record limits r known).state
  pub desk : after.desk ≡ Some (step_record limits r known).state

-- the answer says that the command is an edit
abbrev pub IsAccepted : Answer → Type 0
IsAccepted (Done n) = Unit {0}
IsAccepted (Again n) = Unit {0}
IsAccepted (Refused c) = ⊥

-- Commands in flight, rs and then r: what is stored is as it was, or what they all make.
pub record StopsWithin (limits : Limits) (rs : List Record) (r : Record) (before after : Moment) : Type 0 where
  pub known : State
  pub acts_on : before.desk ≡ Some known
  -- those before the last were accepted: the desk ends a group at the first refusal
  pub accepted : AllByRecursion IsAccepted (answers limits rs known)
  pub stored : (after.stored ≡ known) ⊎ (after.stored ≡ state_after limits (rs ++ r ∷ []) known)
  pub desk : after.desk ≡ None

-- what a step may make of a moment
abbrev pub IsStep : Limits → Moment → Step → Moment → Type 0
IsStep limits before Open after = Opens before after
IsStep limits before (Act r answer) after = Acts limits r answer before after
IsStep limits before (Unserved r) after = after ≡ before
IsStep limits before (StopWithin rs r) after = StopsWithin limits rs r before after
IsStep limits before Stop after = after ≡ at_rest before.stored

-- a run: one step after another
abbrev pub IsRun : Limits → Moment → List Step → Moment → Type 0
IsRun limits before [] after = after ≡ before
IsRun limits before (x ∷ xs) after = (m : Moment) × IsStep limits before x m × IsRun limits m xs after

-- The commands of a run of which the state is made: each that got its answer, in order, and all of those in flight together at their point, or none of them.
pub data Keeps : List Step → List Record → Type 0 where
  nothing : Keeps [] []
  answered : (r : Record) (a : Answer) (xs : List Step) (rs : List Record) → Keeps xs rs → Keeps (Act r a ∷ xs) (r ∷ rs)
  -- none of those that were in flight
  none_in_flight : (sent : List Record) (r : Record) (xs : List Step) (rs : List Record) → Keeps xs rs → Keeps (StopWithin sent r ∷ xs) rs
  -- all of them, at their point
  all_in_flight : (sent : List Record) (r : Record) (xs : List Step) (rs : List Record) → Keeps xs rs → Keeps (StopWithin sent r ∷ xs) ((sent ++ r ∷ []) ++ rs)
  opened : (xs : List Step) (rs : List Record) → Keeps xs rs → Keeps (Open ∷ xs) rs
  unserved : (r : Record) (xs : List Step) (rs : List Record) → Keeps xs rs → Keeps (Unserved r ∷ xs) rs
  stopped : (xs : List Step) (rs : List Record) → Keeps xs rs → Keeps (Stop ∷ xs) rs

-- the commands that got their answers, in order
abbrev pub acknowledged : List Step → List Record
acknowledged [] = []
acknowledged (Act r a ∷ xs) = r ∷ acknowledged xs
acknowledged (Open ∷ xs) = acknowledged xs
acknowledged (Unserved r ∷ xs) = acknowledged xs
acknowledged (StopWithin rs r ∷ xs) = acknowledged xs
acknowledged (Stop ∷ xs) = acknowledged xs

-- Those that were in flight are sent first afterwards, in their order, under their keys, until each has its answer.
abbrev pub SendsFirst : List Step → Type 0
SendsFirst [] = Unit {0}
SendsFirst (StopWithin rs r ∷ xs) = (rest : List Record) × (acknowledged xs ≡ (rs ++ r ∷ []) ++ rest) × SendsFirst xs
SendsFirst (Act r a ∷ xs) = SendsFirst xs
SendsFirst (Open ∷ xs) = SendsFirst xs
SendsFirst (Unserved r ∷ xs) = SendsFirst xs
SendsFirst (Stop ∷ xs) = SendsFirst xs
