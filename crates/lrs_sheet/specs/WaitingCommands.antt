-- Commands that wait, and are done together.
use Rattle.std.specs.Prelude.{◌≡◌, ◌≤◌, ◌<◌, ◌+◌, ◌++◌, ◌⊎◌, ⊤, ℕ, true, false, List, [], ◌∷◌, Option, Some, None, Result, length, take, drop}
use Rattle.std.specs.Io.KnownBytes.{Appends}
use Rattle.lrs_machine.specs.Lines.{Text}
use Rattle.lrs_machine.specs.declared.answer.Answer.{Answer}
use Rattle.lrs_machine.specs.declared.command.Command.{Command}
use Rattle.lrs_sheet.specs.declared.reply.Reply.{Reply}
use Rattle.lrs_sheet.specs.declared.reply.Tally.{Tally}
use Rattle.lrs_machine.specs.Image.{state_of}
use Rattle.lrs_machine.specs.Machine.{answers, state_after}
use Rattle.lrs_machine.specs.State.{State}
use Rattle.lrs_machine.specs.declared.answer.Limits.{Limits}
use Rattle.lrs_machine.specs.declared.image.Image.{Image}
use Rattle.lrs_machine.specs.declared.table.Table.{Table}
use Rattle.lrs_desk.specs.Desk.{records_of}
use Rattle.lrs_desk.specs.DeskView.{DeskView}
use Rattle.lrs_machine.specs.declared.stops.fault.Fault.TheVariants as stop
use Rattle.lrs_sheet_records.specs.declared.fault.SheetFault.{SheetFault}
use Rattle.lrs_sheet_records.specs.declared.fault.SheetFault.TheVariants as fault
use Rattle.csv.specs.Reading.{expected_len}
use Rattle.csv.specs.declared.reader.Reader.{Reader}
use Rattle.lrs_sheet_records.specs.declared.sheet.Sheet.{Sheet}
use Rattle.lrs_sheet_records.specs.Kinds.{edit_record, width_of}
use Rattle.lrs_sheet_records.specs.Records.{SaysCommand}
use Rattle.lrs_sheet.specs.Replies.{IsReplied, answer_count, counted, lines_of, tally_of}
use Rattle.lrs_sheet_records.specs.Rows.{max_records}
use Rattle.lrs_sheet.specs.Sheets.{AreAnswered, GoesAlong, HaveWidth, StandsForEither}
use Rattle.lrs_sheet_records.specs.Rows.{EndsAfter, Gave, IsPlain, IsReadFault}
use Rattle.lrs_sheet.specs.Rows.{DoesRow}

-- the reply of an answer, under the key of its command
abbrev pub reply_of : Text × Command → Answer → Reply
reply_of c a = record { key = Some c.0; answer = a }

-- the replies of these answers, each under the key of its command
abbrev pub replies_of : List (Text × Command) → List Answer → List Reply
replies_of [] answers = []
replies_of (c ∷ commands) [] = []
replies_of (c ∷ commands) (a ∷ answers) = reply_of c a ∷ replies_of commands answers

-- a tally with the answers of these replies
abbrev pub counted_all : Tally → List Reply → Tally
counted_all tally [] = tally
counted_all tally (reply ∷ replies) = counted_all (counted tally reply.answer) replies

-- the replies to commands that are done one after the other
abbrev pub replies_to : Limits → List (Text × Command) → State → List Reply
replies_to limits commands s = replies_of commands (answers limits (records_of commands) s)

-- the state after them
abbrev pub done_all : Limits → List (Text × Command) → State → State
done_all limits commands s = state_after limits (records_of commands) s

-- Commands are done, the line of each is written, and each is counted.
pub record DoesAll (limits : Limits) (commands : List (Text × Command)) (before after : State) (old new : Option Text) (tally counts : Tally) : Type 0 where
  pub state : after ≡ done_all limits commands before
  pub written : Appends old new (lines_of (replies_to limits commands before))
  pub counted : counts ≡ counted_all tally (replies_to limits commands before)

-- the state after some first ones of these commands, one at least
abbrev pub IsAheadBySome : Limits → List (Text × Command) → State → State → Type 0
IsAheadBySome limits commands before after = (ahead : ℕ) × (1 ≤ ahead) × (ahead ≤ length commands) × (after ≡ done_all limits (take ahead commands) before)

-- One command is in flight, and the desk's image is as before it.
pub record IsStill {K : Type 0} (flying : ℕ) (before : State) (after : DeskView K) : Type 0 where
  pub one : flying ≡ 1
  pub state : state_of after.image ≡ before
  pub behind : after.is_ahead ≡ false

-- The desk's image stands for the state after the commands in flight.
pub record IsAhead {K : Type 0} (next : State) (after : DeskView K) : Type 0 where
  pub state : state_of after.image ≡ next
  pub ahead : after.is_ahead ≡ true

-- The first of these commands are in flight: their commit failed, so that all of them are kept or none.
pub record CommandsInFlight {K : Type 0} (holds : K → Result Image Table → Type 0) (limits : Limits) (commands : List (Text × Command)) (before : State) (after : DeskView K) : Type 0 where
  pub flying : ℕ
  pub some : 1 ≤ flying
  pub few : flying ≤ length commands
  pub image : IsStill flying before after ⊎ IsAhead (done_all limits (take flying commands) before) after
  pub alone : length commands ≡ 1 → after.is_ahead ≡ false
  pub content : (c : Result Image Table) → holds after.keeper c → StandsForEither c before (done_all limits (take flying commands) before)

-- The first of these commands are not done, or are in flight; or they are done, and not all of their lines are written.
abbrev pub StopsAtFirst : {K : Type 0} → (K → Result Image Table → Type 0) → List (Text × Command) → DeskView K → DeskView K → Option Text → Option Text → SheetFault → Type 0
StopsAtFirst holds commands before after old new fault.Write = IsAheadBySome before.limits commands (state_of before.image) (state_of after.image)
StopsAtFirst holds commands before after old new (fault.Desk stop.Keep) = (new ≡ old) × CommandsInFlight holds before.limits commands (state_of before.image) after
StopsAtFirst holds commands before after old new (fault.Desk stop.Memory) = (after.image ≡ before.image) × (new ≡ old)
StopsAtFirst holds commands before after old new (fault.Desk stop.MustReopen) = (after.image ≡ before.image) × (new ≡ old)
StopsAtFirst holds commands before after old new fault.Memory = ⊥
StopsAtFirst holds commands before after old new fault.Read = ⊥
StopsAtFirst holds commands before after old new fault.BadHeader = ⊥
StopsAtFirst holds commands before after old new fault.BadCsv = ⊥

-- some first ones of these commands are done, not all, and their lines are written
pub record DoesFront (limits : Limits) (commands : List (Text × Command)) (before after : State) (old new : Option Text) : Type 0 where
  pub done : ℕ
  pub few : done < length commands
  pub state : after ≡ done_all limits (take done commands) before
  pub written : Appends old new (lines_of (replies_to limits (take done commands) before))

-- ... and the first of the others are in flight
pub record BreaksOffAmong {K : Type 0} (holds : K → Result Image Table → Type 0) (commands : List (Text × Command)) (before after : DeskView K) (old new : Option Text) : Type 0 where
  pub settled : State
  pub front : DoesFront before.limits commands (state_of before.image) settled old new
  pub flight : CommandsInFlight holds before.limits (drop front.done commands) settled after

-- Not all of these commands are done and have their lines.
abbrev pub StopsAmong : {K : Type 0} → (K → Result Image Table → Type 0) → List (Text × Command) → DeskView K → DeskView K → Option Text → Option Text → SheetFault → Type 0
StopsAmong holds commands before after old new fault.Write = IsAheadBySome before.limits commands (state_of before.image) (state_of after.image)
StopsAmong holds commands before after old new (fault.Desk stop.Keep) = BreaksOffAmong holds commands before after old new
StopsAmong holds commands before after old new (fault.Desk stop.Memory) = DoesFront before.limits commands (state_of before.image) (state_of after.image) old new
StopsAmong holds commands before after old new (fault.Desk stop.MustReopen) = DoesFront before.limits commands (state_of before.image) (state_of after.image) old new
StopsAmong holds commands before after old new fault.Memory = ⊥
StopsAmong holds commands before after old new fault.Read = ⊥
StopsAmong holds commands before after old new fault.BadHeader = ⊥
StopsAmong holds commands before after old new fault.BadCsv = ⊥

-- each of these records says its command
abbrev pub Say : Sheet → List (List Text) → List (Text × Command) → Type 0
Say sheet [] [] = ⊤
Say sheet (fields ∷ records) (c ∷ commands) = SaysCommand (edit_record sheet fields) c.0 c.1 × Say sheet records commands
Say sheet [] (c ∷ commands) = ⊥
Say sheet (fields ∷ records) [] = ⊥

-- the record says a command, which waits behind the others
abbrev pub Waits : Limits → List Text → List (Text × Command) → List (Text × Command) → State → State → Option Text → Option Text → Tally → Tally → Type 0
Waits limits fields waiting left before after old new tally counts =
    (c : Text × Command) × SaysCommand fields c.0 c.1 × (left ≡ waiting ++ c ∷ []) × (after ≡ before) × (new ≡ old) × (counts ≡ tally)

-- ... and is done with them
abbrev pub DoesWithIt : Limits → List Text → List (Text × Command) → List (Text × Command) → State → State → Option Text → Option Text → Tally → Tally → Type 0
DoesWithIt limits fields waiting left before after old new tally counts =
    (c : Text × Command) × SaysCommand fields c.0 c.1 × (left ≡ []) × DoesAll limits (waiting ++ c ∷ []) before after old new tally counts

-- the waiting commands are done, and then the record is answered
abbrev pub DoesBefore : Limits → List Text → List (Text × Command) → List (Text × Command) → State → State → Option Text → Option Text → Tally → Tally → Type 0
DoesBefore limits fields waiting left before after old new tally counts =
    (mid : Option Text) × (t : Tally) × (left ≡ []) × DoesAll limits waiting before after old mid tally t × DoesRow limits after fields after mid new t counts

-- What becomes of a record, and of the waiting commands.
abbrev pub Takes : Limits → List Text → List (Text × Command) → List (Text × Command) → State → State → Option Text → Option Text → Tally → Tally → Type 0
Takes limits fields waiting left before after old new tally counts =
    Waits limits fields waiting left before after old new tally counts
    ⊎ (DoesWithIt limits fields waiting left before after old new tally counts ⊎ DoesBefore limits fields waiting left before after old new tally counts)

-- the waiting commands are done, and the record is not, for lack of memory, or its line is not written whole
abbrev pub StopsBehind : Limits → List Text → State → Option Text → Option Text → SheetFault → Type 0
StopsBehind limits fields s old new fault.Write = (reply : Reply) × IsReplied limits s fields reply s
StopsBehind limits fields s old new fault.Memory = new ≡ old
StopsBehind limits fields s old new (fault.Desk e) = ⊥
StopsBehind limits fields s old new fault.Read = ⊥
StopsBehind limits fields s old new fault.BadHeader = ⊥
StopsBehind limits fields s old new fault.BadCsv = ⊥

-- How a record stops a run: among the waiting commands, among these and its own, or behind them.
abbrev pub StopsTaking : {K : Type 0} → (K → Result Image Table → Type 0) → List Text → List (Text × Command) → DeskView K → DeskView K → Option Text → Option Text → Tally → SheetFault → Type 0
StopsTaking holds fields waiting before after old new tally e =
    StopsAmong holds waiting before after old new e
    ⊎ (((c : Text × Command) × SaysCommand fields c.0 c.1 × StopsAmong holds (waiting ++ c ∷ []) before after old new e)
    ⊎ ((mid : Option Text) × (t : Tally) × DoesAll before.limits waiting (state_of before.image) (state_of after.image) old mid tally t × GoesAlong holds before after
    × StopsBehind before.limits fields (state_of after.image) mid new e))

-- after some turns of the loop over the records: these are answered, and of the last ones the commands wait
pub record IsWaiting {R K : Type 0} (sheet : Sheet) (holds : K → Result Image Table → Type 0) (remaining : R → Option Text) (first now : Reader R) (before after : DeskView K) (old new : Option Text) (tally : Tally) (waiting : List (Text × Command)) (turns : ℕ) : Type 0 where
  pub records : List (List Text)
  pub replies : List Reply
  pub asked : List (List Text)
  pub plain : IsPlain now
  pub width : expected_len now ≡ Some (width_of sheet)
  pub gave : Gave remaining first now (records ++ asked)
  pub answered : AreAnswered sheet before.limits (state_of before.image) records replies (state_of after.image) old new
  pub desk : GoesAlong holds before after
  pub counts : tally ≡ tally_of replies
  pub say : Say sheet asked waiting
  pub wide : HaveWidth sheet asked
  pub few : answer_count tally + length waiting ≡ turns
  pub in_turn : length records + length asked ≡ turns

-- how the records come to their end: there are no more, or the next one cannot be read, or there are too many
abbrev pub EndsBy : {R : Type 0} → (R → Option Text) → Reader R → Option SheetFault → Type 0
EndsBy remaining last None = EndsAfter remaining last []
EndsBy remaining last (Some e) = IsReadFault remaining last e

-- The records are read to their end, so or so; of the last ones the commands wait.
abbrev pub HasTaken : {R K : Type 0} → Sheet → (K → Result Image Table → Type 0) → (R → Option Text) → Reader R → DeskView K → DeskView K → Option Text → Option Text → Tally → List (Text × Command) → Option SheetFault → Type 0
HasTaken {R} sheet holds remaining first before after old new tally waiting ended =
    (last : Reader R) × (turns : ℕ) × (turns ≤ max_records) × IsWaiting sheet holds remaining first last before after old new tally waiting turns × EndsBy remaining last ended
