-- Laws of records: a record says one command, or asks one question, or has one first malformed field, and lines are made from the table of verbs.
use Rattle.std.specs.Prelude.{◌≡◌, ◌⊎◌, ℕ, List, IsTrue, Contains}
use Rattle.std.specs.List.{AllByRecursion}
use Rattle.lrs_machine.specs.Keys.{is_key}
use Rattle.lrs_machine.specs.Lines.{Text, line_of}
use Rattle.lrs_machine.specs.WellFormedCommands.{IsWellFormed}
use Rattle.lrs_machine.specs.declared.command.Command.{Command}
use Rattle.lrs_machine.specs.declared.question.Question.{Question}
use Rattle.lrs_sheet_records.specs.CanonicalRecords.{IsInLowestTerms, line_by_table, record_of}
use Rattle.lrs_sheet_records.specs.Questions.{FirstMalformedQuestion, SaysQuestion}
use Rattle.lrs_sheet_records.specs.Records.{FirstMalformedAmong, SaysAmong}
use Rattle.lrs_sheet_records.specs.Verbs.{all_verbs, arguments_of}

-- A record says one command under one key, or it has one first malformed field, and not both; whichever verbs of the table there are.
pub record RecordsAreJudged : Type 0 where
  pub some : (names fields : List Text) → ((name : Text) → Contains names name → Contains all_verbs name)
      → ((key : Text) × (command : Command) × SaysAmong names fields key command) ⊎ ((place : ℕ) × FirstMalformedAmong names fields place)
  pub one_command : (names fields : List Text) (key other : Text) (a b : Command) → SaysAmong names fields key a → SaysAmong names fields other b → (key ≡ other) × (a ≡ b)
  pub one_field : (names fields : List Text) (place other : ℕ) → FirstMalformedAmong names fields place → FirstMalformedAmong names fields other → place ≡ other
  pub not_both : (names fields : List Text) (key : Text) (command : Command) (place : ℕ) → SaysAmong names fields key command → FirstMalformedAmong names fields place → ⊥

-- A record of a sheet of questions asks one question under one key, or it has one first malformed field, and not both.
pub record QuestionsAreJudged : Type 0 where
  pub some : (fields : List Text) → ((key : Text) × (q : Question) × SaysQuestion fields key q) ⊎ ((place : ℕ) × FirstMalformedQuestion fields place)
  pub one_question : (fields : List Text) (key other : Text) (q r : Question) → SaysQuestion fields key q → SaysQuestion fields other r → (key ≡ other) × (q ≡ r)
  pub one_field : (fields : List Text) (place other : ℕ) → FirstMalformedQuestion fields place → FirstMalformedQuestion fields other → place ≡ other
  pub not_both : (fields : List Text) (key : Text) (q : Question) (place : ℕ) → SaysQuestion fields key q → FirstMalformedQuestion fields place → ⊥

-- The canonical line of each command is made from the table of verbs.
abbrev pub LinesAreTheTables : Type 0
LinesAreTheTables = (command : Command) → line_of command ≡ line_by_table command

-- The record that a well formed command is printed as says that command, under its key.
abbrev pub PrintedRecordsSay : Type 0
PrintedRecordsSay = (key : Text) (command : Command) → IsTrue (is_key key) → IsWellFormed command → AllByRecursion IsInLowestTerms (arguments_of command) → SaysAmong all_verbs (record_of key command) key command
