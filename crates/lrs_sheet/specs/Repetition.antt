-- Keys that stand twice in a sheet.
use Rattle.std.specs.Prelude.{◌≡◌, ◌+◌, ◌⊎◌, ⊤, ℕ, cond, List, [], ◌∷◌, ◌++◌, length, Option, Some, None}
use Rattle.std.specs.BTreeMap.{BTreeMap, get}
use Rattle.std.specs.Cmp.Lexicographic.{slice_cmp}
use Rattle.std.specs.List.{AllByRecursion}
use Rattle.std.specs.Ordering.{is_eq, nat_cmp}
use Rattle.csv.specs.Reading.{expected_len}
use Rattle.csv.specs.declared.reader.Reader.{Reader}
use Rattle.lrs_machine.specs.Lines.{Text}
use Rattle.lrs_machine.specs.declared.command.Command.{Command}
use Rattle.lrs_sheet_records.specs.declared.sheet.Sheet.{Sheet}
use Rattle.lrs_sheet_records.specs.Kinds.{IsHeader, edit_record, width_of}
use Rattle.lrs_sheet_records.specs.Records.{SaysCommand}
use Rattle.lrs_sheet_records.specs.Rows.{BeginsWith, EndsAfter, Gave, IsPlain, NextDiffers}
use Rattle.lrs_sheet.specs.declared.repetition.RepeatedKey.{RepeatedKey}
use Rattle.lrs_sheet.specs.Sheets.{HaveWidth}

-- The record is well formed, and has this key.
abbrev pub HasKey : Sheet → Text → List Text → Type 0
HasKey sheet key fields = (command : Command) × SaysCommand (edit_record sheet fields) key command

-- The record is malformed: it has no key.
abbrev pub HasNoKey : Sheet → List Text → Type 0
HasNoKey sheet fields = (key : Text) → HasKey sheet key fields → ⊥

-- None of these records has this key.
abbrev pub NoneHasKey : Sheet → Text → List (List Text) → Type 0
NoneHasKey sheet key records = AllByRecursion (λ fields. HasKey sheet key fields → ⊥) records

-- No two of these records have one key.
abbrev pub HaveKeysOnce : Sheet → List (List Text) → Type 0
HaveKeysOnce sheet [] = ⊤
HaveKeysOnce sheet (fields ∷ records) = ((key : Text) → HasKey sheet key fields → NoneHasKey sheet key records) × HaveKeysOnce sheet records

-- No two records of a sheet have one key: of those under its header, up to one that has another length.
abbrev pub HasKeysOnce : Sheet → Text → Type 0
HasKeysOnce sheet input = (header : List Text) (records : List (List Text)) → IsHeader sheet header → BeginsWith input (header ∷ records) → HaveWidth sheet records → HaveKeysOnce sheet records

-- In a sheet a record has the key of one before it, and is the first that has; both are counted from 1.
pub record IsRepeated (sheet : Sheet) (input : Text) (twice : RepeatedKey) : Type 0 where
  pub header : List Text
  pub before : List (List Text)
  pub one : List Text
  pub between : List (List Text)
  pub other : List Text
  pub is_header : IsHeader sheet header
  pub begins : BeginsWith input (header ∷ ((before ++ one ∷ between) ++ other ∷ []))
  pub wide : HaveWidth sheet ((before ++ one ∷ between) ++ other ∷ [])
  pub once : HaveKeysOnce sheet (before ++ one ∷ between)
  pub key : HasKey sheet twice.key one
  pub again : HasKey sheet twice.key other
  pub first : twice.first ≡ length before + 1
  pub second : twice.second ≡ length (before ++ one ∷ between) + 1

-- What is told of the keys of a sheet.
abbrev pub TellsRepetition : Sheet → Text → Option RepeatedKey → Type 0
TellsRepetition sheet input None = HasKeysOnce sheet input
TellsRepetition sheet input (Some twice) = IsRepeated sheet input twice

-- ---- the search

-- the number that is noted of a key
abbrev pub number_of : BTreeMap Text ℕ → Text → Option ℕ
number_of seen key = get (slice_cmp nat_cmp) seen key

-- None of these records has the key, and no number is; or one has it, and the number is its place, from 1.
abbrev pub IsNumber : Sheet → List (List Text) → Text → Option ℕ → Type 0
IsNumber sheet records key None = NoneHasKey sheet key records
IsNumber sheet records key (Some number) =
    (before : List (List Text)) × (one : List Text) × (behind : List (List Text)) × (records ≡ before ++ one ∷ behind) × HasKey sheet key one × (number ≡ length before + 1)

-- the key of one more record is noted, under this number
abbrev pub Notes : BTreeMap Text ℕ → BTreeMap Text ℕ → Text → ℕ → Type 0
Notes old new key number = (other : Text) → number_of new other ≡ cond (is_eq (slice_cmp nat_cmp key other)) (Some number) (number_of old other)

-- One more record is looked at: it has no key, and nothing is noted; or a new one, which is; or a record before it has its key.
abbrev pub TakesKey : Sheet → List Text → ℕ → BTreeMap Text ℕ → BTreeMap Text ℕ → Option RepeatedKey → Type 0
TakesKey sheet fields number old new None =
    (HasNoKey sheet fields × ((key : Text) → number_of new key ≡ number_of old key))
    ⊎ ((key : Text) × HasKey sheet key fields × (number_of old key ≡ None) × Notes old new key number)
TakesKey sheet fields number old new (Some twice) = HasKey sheet twice.key fields × (number_of old twice.key ≡ Some twice.first) × (twice.second ≡ number)

-- after some turns: no two of the records that were given have one key, and of each key it is noted which has it
pub record HasLooked {R : Type 0} (sheet : Sheet) (remaining : R → Option Text) (first now : Reader R) (seen : BTreeMap Text ℕ) (turns : ℕ) : Type 0 where
  pub records : List (List Text)
  pub plain : IsPlain now
  pub width : expected_len now ≡ Some (width_of sheet)
  pub gave : Gave remaining first now records
  pub wide : HaveWidth sheet records
  pub once : HaveKeysOnce sheet records
  pub noted : (key : Text) → IsNumber sheet records key (number_of seen key)
  pub in_turn : length records ≡ turns

-- the last record that was given has the key of one before it, and no two before it have one
pub record HasFoundTwice {R : Type 0} (sheet : Sheet) (remaining : R → Option Text) (first : Reader R) (twice : RepeatedKey) : Type 0 where
  pub last : Reader R
  pub records : List (List Text)
  pub fields : List Text
  pub gave : Gave remaining first last (records ++ fields ∷ [])
  pub wide : HaveWidth sheet (records ++ fields ∷ [])
  pub once : HaveKeysOnce sheet records
  pub before : IsNumber sheet records twice.key (Some twice.first)
  pub again : HasKey sheet twice.key fields
  pub second : twice.second ≡ length records + 1

-- The records are given to the first that has the key of one before it; or there is none up to their end, or to one that has another length.
abbrev pub FindsRepetition : {R : Type 0} → Sheet → (R → Option Text) → Reader R → Option RepeatedKey → Type 0
FindsRepetition {R} sheet remaining first None =
    (last : Reader R) × (seen : BTreeMap Text ℕ) × (turns : ℕ) × HasLooked sheet remaining first last seen turns × (EndsAfter remaining last [] ⊎ NextDiffers remaining last [] (width_of sheet))
FindsRepetition sheet remaining first (Some twice) = HasFoundTwice sheet remaining first twice
