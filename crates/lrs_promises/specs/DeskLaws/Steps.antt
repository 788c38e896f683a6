-- Which steps of a run the calls of a desk are, and what an opening may find in the course of one.
use Rattle.std.specs.Prelude.{◌≡◌, ◌≤◌, Bool, false, if◌then◌else◌, List, [], ◌∷◌, ◌++◌, length, map, Option, Some, None, Result, Ok, Err}
use Rattle.lrs_machine.specs.declared.answer.Answer.{Answer}
use Rattle.lrs_machine.specs.declared.answer.Limits.{Limits}
use Rattle.lrs_machine.specs.declared.image.Image.{Image}
use Rattle.lrs_machine.specs.declared.table.Table.{Table}
use Rattle.lrs_machine.specs.Image.{state_of}
use Rattle.lrs_machine.specs.Machine.{Record}
use Rattle.lrs_machine.specs.State.{State}
use Rattle.lrs_machine.specs.Stop.StoppedRuns.{Step, Act, Unserved, StopWithin, at_rest, IsRun}
use Rattle.lrs_machine.specs.declared.stops.fault.Fault.{Fault}
use Rattle.lrs_machine.specs.declared.stops.fault.Fault.TheVariants.{Memory, Keep, MustReopen}
use Rattle.lrs_desk.specs.DeskView.{DeskView}
use Rattle.lrs_desk.specs.declared.group.FirstAnswers.{FirstAnswers}

-- each of the first of these commands gets its answer, one after another
abbrev pub AreActs : List Record → List Answer → List Step → Type 0
AreActs records [] steps = steps ≡ []
AreActs [] (a ∷ given) steps = ⊥
AreActs (r ∷ rs) (a ∷ given) steps = (rest : List Step) × (steps ≡ Act r a ∷ rest) × AreActs rs given rest

-- the first of these commands are in flight together, up to the last of them; those behind it were not looked at
pub record AreInFlight (records : List Record) (steps : List Step) : Type 0 where
  pub front : List Record
  pub last : Record
  pub behind : List Record
  pub sent : records ≡ front ++ last ∷ behind
  pub step : steps ≡ StopWithin front last ∷ []

-- The steps that commands which are sent together are, by what the desk answers: one command at least gets its answer, or the first ones are in flight, or none is served.
abbrev pub AreStepsOf : List Record → Result FirstAnswers Fault → List Step → Type 0
AreStepsOf records (Ok done) steps = (1 ≤ length done.answers.items) × AreActs records done.answers.items steps
AreStepsOf records (Err Memory) steps = steps ≡ map Unserved records
AreStepsOf records (Err Keep) steps = AreInFlight records steps
AreStepsOf records (Err MustReopen) steps = steps ≡ map Unserved records

-- The step that a command which is sent alone is, by what the desk answers.
abbrev pub step_of : Record → Result Answer Fault → Step
step_of r (Ok a) = Act r a
step_of r (Err Memory) = Unserved r
step_of r (Err Keep) = StopWithin [] r
step_of r (Err MustReopen) = Unserved r

-- what is found is an image of the state
pub record StandsFor (c : Result Image Table) (s : State) : Type 0 where
  pub image : Image
  pub found : c ≡ Ok image
  pub state : state_of image ≡ s

-- Whatever an opening may find is what a run of these steps may have stored; the state on which the open desk acts, if one does.
abbrev pub MayFind : Limits → State → List Step → Option State → (Result Image Table → Type 0) → Type 0
MayFind limits start xs desk may = (c : Result Image Table) → may c → (s : State) × IsRun limits (at_rest start) xs (record { stored = s; desk = desk }) × StandsFor c s

-- ... where no desk is open
abbrev pub IsAtRest : Limits → State → List Step → (Result Image Table → Type 0) → Type 0
IsAtRest limits start xs may = MayFind limits start xs None may

-- the state on which a desk acts: none once a commit has failed
abbrev pub acting : Bool → Image → Option State
acting must_reopen image = if must_reopen then None else Some (state_of image)

-- A desk in the course of a run of these steps.
pub record IsInRun {K : Type 0} (holds : K → Result Image Table → Type 0) (limits : Limits) (start : State) (xs : List Step) (d : DeskView K) : Type 0 where
  pub limits_are : d.limits ≡ limits
  -- the desk acts on a state that such a run has stored
  pub runs : d.must_reopen ≡ false → IsRun limits (at_rest start) xs (record { stored = state_of d.image; desk = Some (state_of d.image) })
  pub found : MayFind limits start xs (acting d.must_reopen d.image) (holds d.keeper)
