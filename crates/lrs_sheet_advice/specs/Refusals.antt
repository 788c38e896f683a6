-- Which replies refuse a record, `KEY,refused,CAUSE`, and the lines of advice about them.
use Rattle.std.specs.Prelude.{◌≡◌, ℕ, ◌==◌, Bool, nat_eq, if◌then◌else◌, List, [], ◌∷◌, ◌++◌, Option, Some, None, IsTrue, codes, drop, slice_index_or}
use Rattle.std.specs.Fmt.{decimal}
use Rattle.std.specs.List.{AllZip, filter, position, starts_with}
use Rattle.std.specs.Io.KnownBytes.{Appends}
use Rattle.lrs_measure.specs.Alphabets.{is_lone_dash}
use Rattle.lrs_machine.specs.Lines.{Text}
use Rattle.lrs_sheet_records.specs.Words.{parts_of}
use Rattle.lrs_sheet_advice.specs.AdviceLines.{is_printable_text, lines_text, shown}

-- a text from a place on, if there is one
abbrev pub from_place : Text → Option ℕ → Text
from_place text None = []
from_place text (Some place) = drop place text

-- a reply from its first comma on
abbrev pub from_comma : Text → Text
from_comma reply = from_place reply (position (λ other. other == 44) reply)

-- what follows the key of a refusal
abbrev pub refused_mark : Text
refused_mark = codes ",refused,"

abbrev pub is_refusal : Text → Bool
is_refusal reply = starts_with nat_eq (from_comma reply) refused_mark

-- the replies that refuse a record, one a line
abbrev pub refusals : Text → List Text
refusals replies = filter is_refusal (parts_of 10 replies)

-- the same of the replies that are left, if any are
abbrev pub refusals_left : Option Text → List Text
refusals_left None = []
refusals_left (Some replies) = refusals replies

-- what stands before the first comma of a reply
abbrev pub first_part : Text → Text
first_part reply = slice_index_or (parts_of 44 reply) 0 []

-- the key of a reply; none where a dash stands for it
abbrev pub key_of : Text → Text
key_of reply = if is_lone_dash (first_part reply) then [] else first_part reply

-- where a record starts: on this line of the sheet
abbrev pub start_text : Option ℕ → Text
start_text None = codes "a record that is not in the sheet"
start_text (Some line) = codes "line " ++ shown (decimal line)

-- the key of a record, if it has one
abbrev pub key_part : Text → Text
key_part [] = []
key_part (byte ∷ rest) = codes ", key " ++ shown (byte ∷ rest)

-- how a line of advice begins: `line 11, key s5: `
abbrev pub head_text : Option ℕ → Text → Text
head_text start key = start_text start ++ key_part key ++ codes ": "

-- the line begins with some line of the sheet, and with the key of the reply
abbrev pub IsAbout : Text → Text → Type 0
IsAbout reply line = (start : Option ℕ) × (rest : Text) × (line ≡ head_text start (key_of reply) ++ rest)

-- ... and no byte in it is a control byte
abbrev pub IsLineOn : Text → Text → Type 0
IsLineOn reply line = IsAbout reply line × IsTrue (is_printable_text line)

-- one line for each of these replies, in their order
abbrev pub AreAbout : List Text → List Text → Type 0
AreAbout replies lines = AllZip IsLineOn replies lines

-- Lines about these replies were written, behind what was there.
abbrev pub WritesAdvice : List Text → Option Text → Option Text → Type 0
WritesAdvice replies old new = (lines : List Text) × AreAbout replies lines × Appends old new (lines_text lines)
