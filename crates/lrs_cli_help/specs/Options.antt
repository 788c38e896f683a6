-- The options that go with every job. They may stand anywhere among its words.
use Rattle.std.specs.Prelude.{◌≡◌, ℕ, ◌≤◌, Bool, IsTrue, not, ◌&&◌, ◌||◌, nat_le, if◌then◌else◌, length, List, [], ◌∷◌, ◌++◌, take, drop, Option, Some, None, codes}
use Rattle.std.specs.List.{list_all}
use Rattle.std.specs.Option.{SomeIff}
use Rattle.std.specs.Str.{bytes_eq}
use Rattle.std.specs.Str.Parse.{IsNumeral, digits_value}
use Rattle.clap.specs.Words.{Text}
use Rattle.lrs_cli_help.specs.declared.options.NextWord.{NextWord}
use Rattle.lrs_cli_help.specs.declared.options.NextWord.TheVariants.{OfJob, Wait, Expect}

abbrev pub existing : Text
existing = codes "--existing"

abbrev pub explain : Text
explain = codes "--explain"

abbrev pub wait : Text
wait = codes "--wait"

-- how a word begins that has behind this what `--wait` is given
abbrev pub wait_for : Text
wait_for = codes "--wait="

abbrev pub expect : Text
expect = codes "--expect"

-- the same of `--expect`
abbrev pub expect_for : Text
expect_for = codes "--expect="

-- the word is the option
abbrev pub is_option : Text → Text → Bool
is_option option word = bytes_eq word option

-- the word is neither of the options that are given nothing
abbrev pub is_job_word : Text → Bool
is_job_word word = not (is_option existing word) && not (is_option explain word)

-- What is read of the words, from the first one on: those of the job, what `--wait` and `--expect` are given, and what the next word is.
pub record Reading : Type 0 where
  pub words : List Text
  pub wait : Option Text
  pub expected : Option Text
  pub next : NextWord

-- nothing is read yet
abbrev pub unread : Reading
unread = record { words = []; wait = None; expected = None; next = OfJob }

-- a word that no option waits for: where none stands behind `--wait` or `--expect`, it is given an empty text
abbrev pub read_next : Reading → Text → Reading
read_next r word =
    if is_option wait word
    then record r { wait = Some []; next = Wait }
    else if is_option expect word
    then record r { expected = Some []; next = Expect }
    else if bytes_eq (take 7 word) wait_for
    then record r { wait = Some (drop 7 word) }
    else if bytes_eq (take 9 word) expect_for
    then record r { expected = Some (drop 9 word) }
    else if is_job_word word
    then record r { words = r.words ++ word ∷ [] }
    else r

-- one word more: what an option is given last counts
abbrev pub read_as : NextWord → Reading → Text → Reading
read_as Wait r word = record r { wait = Some word; next = OfJob }
read_as Expect r word = record r { expected = Some word; next = OfJob }
read_as OfJob r word = read_next r word

abbrev pub read_word : Reading → Text → Reading
read_word r word = read_as r.next r word

-- how many seconds are waited: 5 where nothing is given, and none where that is no whole number of at most 3600
abbrev pub IsWait : Option Text → Option ℕ → Type 0
IsWait None seconds = seconds ≡ Some 5
IsWait (Some text) seconds = SomeIff seconds (IsNumeral 10 text × (digits_value 10 text ≤ 3600)) (digits_value 10 text)

-- a digit of a hexadecimal number, in small letters
abbrev pub is_digit : ℕ → Bool
is_digit byte = (nat_le 48 byte && nat_le byte 57) || (nat_le 97 byte && nat_le byte 102)

-- 16 such digits
abbrev pub IsIdentity : Text → Type 0
IsIdentity text = (length text ≡ 16) × IsTrue (list_all is_digit text)

-- which identity is expected: any where nothing is given, and none can be where that is no identity
abbrev pub AreExpected : Option Text → Option (Option Text) → Type 0
AreExpected None expected = expected ≡ Some None
AreExpected (Some text) expected = SomeIff expected (IsIdentity text) (Some text)
