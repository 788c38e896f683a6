-- What is told of a sheet that was tried, as JSON: what it would be answered, advice, and what it would change.
use Rattle.std.specs.Prelude.{ℕ, List, [], ◌∷◌, ◌++◌, codes, Option, Some, None, Result, Ok, Err, option_map, vec_items}
use Rattle.std.specs.Str.Lines.{lines}
use Rattle.std.specs.Str.Lossy.{utf8_lossy}
use Rattle.serde_json.specs.Data.{Data, null, string}
use Rattle.serde_json.specs.Written.{compact_text}
use Rattle.lrs_machine.specs.Lines.{Text}
use Rattle.lrs_sheet_advice.specs.declared.advice_list.AdviceItem.{AdviceItem}
use Rattle.lrs_web_requests.specs.Text.{Answer}
use Rattle.lrs_web_replies.specs.JsonParts.{each, whole, with}
use Rattle.lrs_web_replies.specs.Listings.{said_of}
use Rattle.lrs_web_replies.specs.Parts.{front_text, name_text}
use Rattle.lrs_web_replies.specs.Replies.{json_answer}
use Rattle.lrs_web_replies.specs.declared.trial.TrialCounts.{TrialCounts}
use Rattle.lrs_web_replies.specs.declared.trial.TrialFault.{TrialFault}
use Rattle.lrs_web_replies.specs.declared.trial.TrialFault.TheVariants as fault

-- how it ended: how many replies there were of each kind, or why the sheet is none to its end
abbrev pub Outcome : Type 0
Outcome = Result TrialCounts TrialFault

-- the name of a fault
abbrev pub fault_text : TrialFault → Text
fault_text fault.BadHeader = codes "BadHeader"
fault_text fault.BadCsv = codes "BadCsv"

-- the fault, or null
abbrev pub fault_data : Outcome → Data
fault_data (Ok counts) = null
fault_data (Err fault) = string (fault_text fault)

-- a count, or null where there is none
abbrev pub count_data : Option ℕ → Data
count_data count = said_of whole count

-- one of the counts; of a sheet with a fault there are none
abbrev pub counted : (TrialCounts → ℕ) → Outcome → Option ℕ
counted count_of (Ok counts) = Some (count_of counts)
counted count_of (Err fault) = None

-- the lines of a text, without their line ends; U+FFFD stands for what is no UTF-8
abbrev pub lines_data : Text → Data
lines_data text = each string (lines (utf8_lossy text))

-- a text, in the same way
abbrev pub text_data : Text → Data
text_data text = string (utf8_lossy text)

-- a text, or null where there is none
abbrev pub named_data : Option Text → Data
named_data text = said_of text_data text

-- Advice, in this order: the line of the sheet, the key, the letter of the column, the text that stands there, what is wanted there, and all of it in words.
abbrev pub advice_data : AdviceItem → Data
advice_data a = with (
    (codes "line", count_data a.line) ∷ (codes "key", named_data (option_map vec_items a.key)) ∷ (codes "column", named_data (option_map (λ letter. letter ∷ []) a.column))
    ∷ (codes "value", named_data (option_map vec_items a.value)) ∷ (codes "wanted", named_data (option_map vec_items a.wanted)) ∷ (codes "text", text_data a.text.items) ∷ []
    )

-- What is told, in this order: the counts, the fault, the lines of the replies, the advice, and the lines of the difference.
abbrev pub trial_data : Outcome → Text → List AdviceItem → Text → Data
trial_data outcome replies advice difference = with (
    (codes "done", count_data (counted (λ c. c.done) outcome)) ∷ (codes "again", count_data (counted (λ c. c.again) outcome))
    ∷ (codes "refused", count_data (counted (λ c. c.refused) outcome)) ∷ (codes "fault", fault_data outcome)
    ∷ (codes "replies", lines_data replies) ∷ (codes "advice", each advice_data advice) ∷ (codes "difference", lines_data difference) ∷ []
    )

-- the exact text
abbrev pub trial_text : Outcome → Text → List AdviceItem → Text → Text
trial_text outcome replies advice difference = compact_text (trial_data outcome replies advice difference)

-- the status of the sheet, were it done
abbrev pub trial_status : Outcome → ℕ
trial_status (Ok counts) = 200
trial_status (Err fault) = 422

-- the reply to a sheet that was tried
abbrev pub trial_answer : Outcome → Text → List AdviceItem → Text → Answer
trial_answer outcome replies advice difference = json_answer (trial_status outcome) (trial_data outcome replies advice difference)

-- ---- the text of a trial, part by part

-- the object up to the end of its counts
abbrev pub counts_text : Option ℕ → Option ℕ → Option ℕ → Text
counts_text done again refused =
    front_text (codes "done") ++ (compact_text (count_data done) ++ (name_text (codes "again") ++ (compact_text (count_data again)
    ++ (name_text (codes "refused") ++ compact_text (count_data refused)))))

-- one more member, whose value has this text
abbrev pub member_text : Text → Data → Text
member_text name value = name_text name ++ compact_text value

-- advice up to the end of its column
abbrev pub place_text : AdviceItem → Text
place_text a =
    front_text (codes "line") ++ (compact_text (count_data a.line) ++ (member_text (codes "key") (named_data (option_map vec_items a.key))
    ++ member_text (codes "column") (named_data (option_map (λ letter. letter ∷ []) a.column))))

-- the rest of it
abbrev pub words_text : AdviceItem → Text
words_text a =
    member_text (codes "value") (named_data (option_map vec_items a.value)) ++ (member_text (codes "wanted") (named_data (option_map vec_items a.wanted))
    ++ member_text (codes "text") (text_data a.text.items))
