-- The laws of sheets: the bytes of a sheet and the state before it determine the bytes of the reply and the state after it; and a sheet whose replies were lost can go on.
use Rattle.std.specs.Prelude.{◌≡◌, ◌⊎◌, ◌++◌, ◌∷◌, [], ℕ, Bool, true, List, drop, Some, is_none, Ok}
use Rattle.std.specs.List.{list_all}
use Rattle.lrs_machine.specs.Lines.{Text}
use Rattle.lrs_machine.specs.State.{State}
use Rattle.lrs_machine.specs.Machine.{Record, place_of_key}
use Rattle.lrs_machine.specs.declared.answer.Field.{Field}
use Rattle.lrs_machine.specs.declared.answer.Limits.{Limits}
use Rattle.lrs_sheet.specs.declared.reply.Reply.{Reply}
use Rattle.lrs_sheet.specs.declared.reply.Tally.{Tally}
use Rattle.lrs_sheet_records.specs.declared.sheet.Sheet.{Sheet}
use Rattle.lrs_sheet_records.specs.Kinds.{edit_record}
use Rattle.lrs_sheet_records.specs.Records.{FirstMalformed, SaysCommand, place_of}
use Rattle.lrs_sheet.specs.Replies.{Replied, lines_of}
use Rattle.lrs_sheet.specs.Resumption.{Resumes}
use Rattle.lrs_sheet_records.specs.Rows.{AreAll, BeginsWith}
use Rattle.lrs_sheet.specs.Sheets.{Runs}

-- what a run without a fault leaves, from what a writer had to what it has
pub record Outcome : Type 0 where
  pub state : State
  pub written : Text
  pub tally : Tally

-- both wrote one reply, and have one state and one tally
pub record IsOneReply (old : Text) (one : Outcome) (earlier : Text) (other : Outcome) : Type 0 where
  pub lines : (reply : Text) × (one.written ≡ old ++ reply) × (other.written ≡ earlier ++ reply)
  pub state : one.state ≡ other.state
  pub tally : one.tally ≡ other.tally

-- Two runs of a sheet of one kind over the same bytes, from the same state, that end without a fault write the same bytes and leave the same state, however many records each does together.
abbrev pub SheetDeterminesReply : Type 0
SheetDeterminesReply = (sheet : Sheet) (together others : ℕ) (limits : Limits) (input : Text) (before : State) (old earlier : Text) (one other : Outcome)
    → Runs sheet together limits input before one.state (Some old) (Some one.written) (Ok one.tally)
    → Runs sheet others limits input before other.state (Some earlier) (Some other.written) (Ok other.tally)
    → IsOneReply old one earlier other

-- ---- going on

-- the record says none, or the first of these commands, and the records behind it say the others
abbrev pub Say : Sheet → List (List Text) → List Record → Type 0
Say sheet [] said = said ≡ []
Say sheet (fields ∷ records) said =
    (((field : Field) × FirstMalformed (edit_record sheet fields) (place_of field)) × Say sheet records said)
    ⊎ ((r : Record) × (others : List Record) × (said ≡ r ∷ others) × SaysCommand (edit_record sheet fields) r.key r.command × Say sheet records others)

-- The keys of a sheet are of no edit of the start.
abbrev pub HasNewKeys : Sheet → State → Text → Type 0
HasNewKeys sheet start input = (header : List Text) (records : List (List Text)) (said : List Record) → AreAll input (header ∷ records) → Say sheet records said → list_all (λ r. is_none (place_of_key r.key start.done)) said ≡ true

-- Some first records of a sheet have been looked at, and nobody knows how many.
pub record HasBegun (sheet : Sheet) (limits : Limits) (input : Text) (start now : State) : Type 0 where
  pub header : List Text
  pub records : List (List Text)
  pub replies : List Reply
  pub begins : BeginsWith input (header ∷ records)
  pub replied : Replied sheet limits start records replies now

-- One run of the whole sheet wrote these lines; another wrote those of the records behind the decided ones, and left the same state.
pub record IsRestOf (old : Text) (whole : Outcome) (earlier : Text) (rest : Outcome) : Type 0 where
  pub replies : List Reply
  pub decided : ℕ
  pub written : whole.written ≡ old ++ lines_of replies
  pub behind : rest.written ≡ earlier ++ lines_of (drop decided replies)
  pub state : rest.state ≡ whole.state

-- A sheet of new keys that was begun and stopped goes on as if it had not: what is written then is what one run of it would have written behind the decided records, and the state is that after one run.
abbrev pub ResumedIsUnstopped : Type 0
ResumedIsUnstopped = (must_reopen : Bool) (sheet : Sheet) (together others : ℕ) (limits : Limits) (input : Text) (start now : State) (old earlier : Text) (whole rest : Outcome)
    → HasNewKeys sheet start input → HasBegun sheet limits input start now
    → Runs sheet together limits input start whole.state (Some old) (Some whole.written) (Ok whole.tally)
    → Resumes must_reopen sheet others limits input now rest.state (Some earlier) (Some rest.written) (Ok rest.tally)
    → IsRestOf old whole earlier rest
