-- The answers to the records of a sheet, and the lines that give them.
use Rattle.std.specs.Prelude.{◌+◌, ◌≡◌, ◌⊎◌, ℕ, List, [], ◌∷◌, ◌++◌, Option, Some, None, Bool, true, false, IsTrue, codes, count_by}
use Rattle.std.specs.Option.{SomeIff}
use Rattle.std.specs.List.{flat_map}
use Rattle.lrs_machine.specs.AnswerTexts.{answer_text}
use Rattle.lrs_machine.specs.Keys.{is_key}
use Rattle.lrs_machine.specs.Lines.{Text}
use Rattle.lrs_machine.specs.Machine.{step}
use Rattle.lrs_machine.specs.State.{State}
use Rattle.lrs_machine.specs.declared.answer.Field.{Field}
use Rattle.lrs_machine.specs.declared.answer.Cause.TheVariants as cause
use Rattle.lrs_machine.specs.declared.answer.Answer.{Answer}
use Rattle.lrs_machine.specs.declared.answer.Answer.TheVariants.{Done, Again, Refused}
use Rattle.lrs_machine.specs.declared.answer.Limits.{Limits}
use Rattle.lrs_machine.specs.declared.command.Command.{Command}
use Rattle.lrs_sheet.specs.declared.reply.Reply.{Reply}
use Rattle.lrs_sheet.specs.declared.reply.Tally.{Tally}
use Rattle.lrs_sheet_records.specs.declared.sheet.Sheet.{Sheet}
use Rattle.lrs_sheet_records.specs.Kinds.{edit_record}
use Rattle.lrs_sheet_records.specs.Records.{SaysCommand, FirstMalformed, place_of, text_at}

-- a key, or a dash where the key itself is malformed
abbrev pub name_text : Option Text → Text
name_text None = codes "-"
name_text (Some key) = key

-- The line of a reply.
abbrev pub reply_text : Reply → Text
reply_text reply = name_text reply.key ++ codes "," ++ answer_text reply.answer

-- the lines of some replies
abbrev pub lines_of : List Reply → Text
lines_of replies = flat_map (λ reply. reply_text reply ++ 10 ∷ []) replies

-- From one state the record is answered so, and leaves the other: its command is answered by the ground machine, or its first malformed field is named.
abbrev pub IsAnswered : Limits → State → List Text → Answer → State → Type 0
IsAnswered limits before fields answer after =
    ((key : Text) × (command : Command) × SaysCommand fields key command × (answer ≡ (step limits key command before).answer) × (after ≡ (step limits key command before).state))
    ⊎ ((field : Field) × FirstMalformed fields (place_of field) × (answer ≡ Refused (cause.Malformed field)) × (after ≡ before))

-- A record's reply has its key, where that is well formed, and its answer.
abbrev pub IsReplied : Limits → State → List Text → Reply → State → Type 0
IsReplied limits before fields reply after = SomeIff reply.key (IsTrue (is_key (text_at fields 0))) (text_at fields 0) × IsAnswered limits before fields reply.answer after

-- The records of a sheet are answered in order, from one state to the other, each as the record of an edit sheet that says the same.
unfoldable pub Replied : Sheet → Limits → State → List (List Text) → List Reply → State → Type 0
Replied sheet limits before [] [] after = after ≡ before
Replied sheet limits before (fields ∷ records) (reply ∷ replies) after = (middle : State) × IsReplied limits before (edit_record sheet fields) reply middle × Replied sheet limits middle records replies after
Replied sheet limits before [] (reply ∷ replies) after = ⊥
Replied sheet limits before (fields ∷ records) [] after = ⊥

abbrev pub is_done : Answer → Bool
is_done (Done n) = true
is_done (Again n) = false
is_done (Refused cause) = false

abbrev pub is_again : Answer → Bool
is_again (Done n) = false
is_again (Again n) = true
is_again (Refused cause) = false

abbrev pub is_refused : Answer → Bool
is_refused (Done n) = false
is_refused (Again n) = false
is_refused (Refused cause) = true

-- how many replies there are of each kind
abbrev pub tally_of : List Reply → Tally
tally_of replies = record {
  done = count_by (λ reply. is_done reply.answer) replies;
  again = count_by (λ reply. is_again reply.answer) replies;
  refused = count_by (λ reply. is_refused reply.answer) replies;
}

-- a tally with one more answer
abbrev pub counted : Tally → Answer → Tally
counted tally (Done n) = record tally { done = tally.done + 1 }
counted tally (Again n) = record tally { again = tally.again + 1 }
counted tally (Refused cause) = record tally { refused = tally.refused + 1 }

-- how many answers a tally counts
abbrev pub answer_count : Tally → ℕ
answer_count tally = tally.done + tally.again + tally.refused
