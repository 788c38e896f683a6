-- What holds of every run that stops.
use Rattle.std.specs.Prelude.{◌≡◌, ◌⊎◌, ◌↔◌, ◌≤◌, ◌+◌, ◌-◌, ℕ, max, nat_lt, Bool, true, List, [], ◌∷◌, ◌++◌, map, length, Some, None}
use Rattle.std.specs.List.{count_by, AllByRecursion}
use Rattle.lrs_measure.specs.Texts.{Name, same_name}
use Rattle.lrs_machine.specs.declared.answer.Answer.{Answer}
use Rattle.lrs_machine.specs.declared.answer.Answer.TheVariants.{Done, Again, Refused}
use Rattle.lrs_machine.specs.declared.answer.Limits.{Limits}
use Rattle.lrs_machine.specs.State.{State}
use Rattle.lrs_machine.specs.Machine.{Record, step_record, answers, state_after}
use Rattle.lrs_machine.specs.Laws.{IsLawful}
use Rattle.lrs_machine.specs.Stop.KnownEdits.{edit_of}
use Rattle.lrs_machine.specs.Stop.StoppedRuns.{Step, Open, Act, Unserved, StopWithin, Stop, Moment, at_rest, IsRun, IsAccepted, Keeps, acknowledged, SendsFirst}

-- The open desk acts on what is stored.
abbrev pub DeskIsStored : Type 0
DeskIsStored = (limits : Limits) (start s : State) (xs : List Step) (m : Moment) → IsRun limits (at_rest start) xs m → m.desk ≡ Some s → s ≡ m.stored

-- what is stored is made of these commands
pub record IsMadeBy (limits : Limits) (start : State) (xs : List Step) (found : State) : Type 0 where
  pub commands : List Record
  pub kept : Keeps xs commands
  pub stored : found ≡ state_after limits commands start

-- What is stored, and so what an opening finds, is the fold over the commands that were answered, with all of the commands in flight, or none of them, at their point.
abbrev pub StoredIsFold : Type 0
StoredIsFold = (limits : Limits) (start : State) (xs : List Step) (m : Moment) → IsRun limits (at_rest start) xs m → IsMadeBy limits start xs m.stored

-- an answer is the ground machine's after some commands
pub record IsAnswerAfter (limits : Limits) (start : State) (xs : List Step) (r : Record) (a : Answer) : Type 0 where
  pub commands : List Record
  pub kept : Keeps xs commands
  pub answer : a ≡ (step_record limits r (state_after limits commands start)).answer

-- So is each answer that was given.
abbrev pub AnswersAreOfFold : Type 0
AnswersAreOfFold = (limits : Limits) (start : State) (xs ys : List Step) (r : Record) (a : Answer) (m : Moment) → IsRun limits (at_rest start) (xs ++ Act r a ∷ ys) m → IsAnswerAfter limits start xs r a

-- An answer that is given in place of another: the same one, or, where the command was in flight before, `Again` with the edit's number in place of `Done`.
pub data StandsIn : Bool → Answer → Answer → Type 0 where
  same : (in_flight : Bool) (a : Answer) → StandsIn in_flight a a
  again : (n : ℕ) → StandsIn true (Again n) (Done n)

-- The answers that were given stand in for the expected ones; the count is of the next commands that were in flight before.
abbrev pub StandInFor : ℕ → List Step → List Answer → Type 0
StandInFor count [] expected = expected ≡ []
StandInFor count (Act r given ∷ xs) expected = (a : Answer) × (rest : List Answer) × (expected ≡ a ∷ rest) × StandsIn (nat_lt 0 count) given a × StandInFor (count - 1) xs rest
StandInFor count (StopWithin rs r ∷ xs) expected = StandInFor (max count (length rs + 1)) xs expected
StandInFor count (Open ∷ xs) expected = StandInFor count xs expected
StandInFor count (Unserved r ∷ xs) expected = StandInFor count xs expected
StandInFor count (Stop ∷ xs) expected = StandInFor count xs expected

-- as if nothing had stopped
pub record IsUnstopped (limits : Limits) (start : State) (xs : List Step) (found : State) : Type 0 where
  pub stored : found ≡ state_after limits (acknowledged xs) start
  pub given : StandInFor 0 xs (answers limits (acknowledged xs) start)

-- Where those in flight are sent first afterwards, in their order, and the rest follows, state and answers are those of the same commands without a stop.
abbrev pub SentFirstIsUnstopped : Type 0
SentFirstIsUnstopped = (limits : Limits) (start : State) (xs : List Step) (m : Moment) → IsRun limits (at_rest start) xs m → SendsFirst xs → IsUnstopped limits start xs m.stored

-- ---- where `Again` is answered

-- Nothing is answered: there are openings and stops, and the same commands may be in flight again.
abbrev pub HasNoAnswer : List Record → Record → List Step → Type 0
HasNoAnswer rs r [] = Unit {0}
HasNoAnswer rs r (StopWithin qs q ∷ xs) = (qs ≡ rs) × (q ≡ r) × HasNoAnswer rs r xs
HasNoAnswer rs r (Act q a ∷ xs) = ⊥
HasNoAnswer rs r (Open ∷ xs) = HasNoAnswer rs r xs
HasNoAnswer rs r (Unserved q ∷ xs) = HasNoAnswer rs r xs
HasNoAnswer rs r (Stop ∷ xs) = HasNoAnswer rs r xs

-- none is in flight
abbrev pub HasNoneInFlight : List Step → Type 0
HasNoneInFlight [] = Unit {0}
HasNoneInFlight (StopWithin rs r ∷ xs) = ⊥
HasNoneInFlight (Act r a ∷ xs) = HasNoneInFlight xs
HasNoneInFlight (Open ∷ xs) = HasNoneInFlight xs
HasNoneInFlight (Unserved r ∷ xs) = HasNoneInFlight xs
HasNoneInFlight (Stop ∷ xs) = HasNoneInFlight xs

-- the answers that were given, in order
abbrev pub answers_in : List Step → List Answer
answers_in [] = []
answers_in (Act r a ∷ xs) = a ∷ answers_in xs
answers_in (Open ∷ xs) = answers_in xs
answers_in (Unserved r ∷ xs) = answers_in xs
answers_in (StopWithin rs r ∷ xs) = answers_in xs
answers_in (Stop ∷ xs) = answers_in xs

-- The stop kept the command as edit n: it is found as this edit, and before it was none.
abbrev pub IsKept : Record → ℕ → State → State → Type 0
IsKept r n before found = (edit_of before r ≡ None) × (edit_of found r ≡ Some n)

-- The command that was in flight is sent first, and then others; these are the answers, and the state at the end.
pub record IsAsBefore (limits : Limits) (r : Record) (before found : State) (rest : List Record) (said : List Answer) (end : State) : Type 0 where
  pub answer : Answer
  -- `Again` is answered exactly where the command is found, with the number of that edit
  pub again : (n : ℕ) → (answer ≡ Again n) ↔ (edit_of found r ≡ Some n)
  -- if the stop kept it, in place of `Done` with the same number
  pub kept : (n : ℕ) → IsKept r n before found → (step_record limits r before).answer ≡ Done n
  -- and if the stop did not, the answer is as without a stop
  pub otherwise : ((n : ℕ) → IsKept r n before found → ⊥) → answer ≡ (step_record limits r before).answer
  -- so are all other answers, and the state
  pub said_are : said ≡ answer ∷ answers limits rest (step_record limits r before).state
  pub state : end ≡ state_after limits (r ∷ rest) before

-- One command is in flight: an opening finds what there was before, with it or without it. It may be sent first, and then others.
pub record IsOneInFlight (limits : Limits) (r : Record) (before : State) (m : Moment) : Type 0 where
  pub found : (m.stored ≡ before) ⊎ (m.stored ≡ (step_record limits r before).state)
  pub sent_first : (xs : List Step) (rest : List Record) (n : Moment) → IsRun limits m xs n → HasNoneInFlight xs → acknowledged xs ≡ r ∷ rest → IsAsBefore limits r before m.stored rest (answers_in xs) n.stored

-- Where one command is in flight, and each that was in flight before was sent first: an opening finds all acknowledged commands, with it or without it; it is answered `Again` exactly where it was kept, and all else is as without a stop.
abbrev pub AgainWhereKept : Type 0
AgainWhereKept = (limits : Limits) (start : State) (xs ys : List Step) (r : Record) (m : Moment)
    → IsRun limits (at_rest start) (xs ++ StopWithin [] r ∷ ys) m → SendsFirst xs → HasNoAnswer [] r ys → IsOneInFlight limits r (state_after limits (acknowledged xs) start) m

-- the answer to a command that is known by then, as it was answered first
abbrev pub as_known : Answer → Answer
as_known (Done n) = Again n
as_known (Again n) = Again n
as_known (Refused c) = Refused c

-- Those that were in flight are sent first, and then others: where they were left out, all is as without a stop, and where they were kept, each of them is known.
pub record AreAsBefore (limits : Limits) (sent : List Record) (before found : State) (rest : List Record) (said : List Answer) (end : State) : Type 0 where
  pub left_out : found ≡ before → said ≡ answers limits (sent ++ rest) before
  pub kept : found ≡ state_after limits sent before → said ≡ map as_known (answers limits sent before) ++ answers limits rest (state_after limits sent before)
  pub state : end ≡ state_after limits (sent ++ rest) before

-- Several are in flight: an opening finds what there was before, with all of them or with none.
pub record AreInFlight (limits : Limits) (sent : List Record) (before : State) (m : Moment) : Type 0 where
  pub found : (m.stored ≡ before) ⊎ (m.stored ≡ state_after limits sent before)
  pub sent_first : (xs : List Step) (rest : List Record) (n : Moment) → IsRun limits m xs n → HasNoneInFlight xs → acknowledged xs ≡ sent ++ rest → AreAsBefore limits sent before m.stored rest (answers_in xs) n.stored

-- So it is where several are in flight together.
abbrev pub AllAgainWhereKept : Type 0
AllAgainWhereKept = (limits : Limits) (start : State) (xs ys : List Step) (rs : List Record) (r : Record) (m : Moment)
    → IsRun limits (at_rest start) (xs ++ StopWithin rs r ∷ ys) m → SendsFirst xs → HasNoAnswer rs r ys → AreInFlight limits (rs ++ r ∷ []) (state_after limits (acknowledged xs) start) m

-- ---- none is lost, and none is doubled

-- the answer says that the command is this edit
abbrev pub Accepts : Answer → ℕ → Type 0
Accepts a n = (a ≡ Done n) ⊎ (a ≡ Again n)

-- sent again, the command is answered again, and changes nothing
pub record IsKnown (limits : Limits) (r : Record) (n : ℕ) (s : State) : Type 0 where
  pub answer : (step_record limits r s).answer ≡ Again n
  pub state : (step_record limits r s).state ≡ s

-- No command that was answered as an edit is lost: whatever follows, it is that edit.
abbrev pub NoneIsLost : Type 0
NoneIsLost = (limits : Limits) (start : State) (xs ys : List Step) (r : Record) (a : Answer) (n : ℕ) (m : Moment)
    → IsRun limits (at_rest start) (xs ++ Act r a ∷ ys) m → Accepts a n → IsKnown limits r n m.stored

-- No key is of two edits.
abbrev pub HasKeysOnce : State → Type 0
HasKeysOnce s = (key : Name) → count_by (λ e. same_name e.key key) s.done ≤ 1

-- No command is doubled, whether it was answered, in flight, or sent again.
abbrev pub NoneIsDoubled : Type 0
NoneIsDoubled = (limits : Limits) (start : State) (xs : List Step) (m : Moment) → HasKeysOnce start → IsRun limits (at_rest start) xs m → HasKeysOnce m.stored

-- What is stored is lawful, if it was at the start: balanced, exclusive, its ledgers named, and its ground known.
abbrev pub StoredIsLawful : Type 0
StoredIsLawful = (limits : Limits) (start : State) (xs : List Step) (m : Moment) → IsLawful start → IsRun limits (at_rest start) xs m → IsLawful m.stored

-- Where a desk is open and commands are sent together, all but the last of them accepted, a run may stop with none of them stored, and with all of them. (One that is sent alone is the last.)
pub record BothCanBe (limits : Limits) (start : State) (xs : List Step) (rs : List Record) (r : Record) (s : State) : Type 0 where
  pub none : IsRun limits (at_rest start) (xs ++ StopWithin rs r ∷ []) (at_rest s)
  pub all : IsRun limits (at_rest start) (xs ++ StopWithin rs r ∷ []) (at_rest (state_after limits (rs ++ r ∷ []) s))

abbrev pub StopsHaveBothOutcomes : Type 0
StopsHaveBothOutcomes = (limits : Limits) (start s : State) (xs : List Step) (rs : List Record) (r : Record) (m : Moment)
    → IsRun limits (at_rest start) xs m → m.desk ≡ Some s → AllByRecursion IsAccepted (answers limits rs s) → BothCanBe limits start xs rs r s

-- There is a run of any commands that stops nowhere.
pub record IsServed (limits : Limits) (start : State) (rs : List Record) : Type 0 where
  pub steps : List Step
  pub run : IsRun limits (at_rest start) (Open ∷ steps) (record { stored = state_after limits rs start; desk = Some (state_after limits rs start) })
  pub commands : acknowledged steps ≡ rs

abbrev pub RunsAreThere : Type 0
RunsAreThere = (limits : Limits) (start : State) (rs : List Record) → IsServed limits start rs
