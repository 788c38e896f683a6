-- How the answers to a sheet are summed up: `12 records: 9 would be done, 1 again, 2 refused`.
use Rattle.std.specs.Prelude.{ℕ, ◌++◌, ◌==◌, codes, if◌then◌else◌}
use Rattle.std.specs.Fmt.{decimal}
use Rattle.lrs_machine.specs.Lines.{Text}

abbrev pub records_word : ℕ → Text
records_word count = if count == 1 then codes "record" else codes "records"

abbrev pub total_text : ℕ → ℕ → Text
total_text count done = decimal count ++ codes " " ++ records_word count ++ codes ": " ++ decimal done ++ codes " would be done, "

abbrev pub rest_text : ℕ → ℕ → Text
rest_text again refused = decimal again ++ codes " again, " ++ decimal refused ++ codes " refused\n"

-- the whole line, of so many records
abbrev pub summary_text : ℕ → ℕ → ℕ → ℕ → Text
summary_text count done again refused = total_text count done ++ rest_text again refused
