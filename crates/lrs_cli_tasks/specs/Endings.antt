-- How the program ends: its status, and what it says on standard error.
use Rattle.std.specs.Prelude.{ℕ, [], ◌∷◌, ◌++◌, codes}
use Rattle.lrs_machine.specs.Lines.{Text}
use Rattle.lrs_report_answers.specs.Causes.{cause_text}
use Rattle.lrs_cli_words.specs.Questions.{bad_word_text}
use Rattle.lrs_cli_tasks.specs.declared.endings.Ending.{Ending}
use Rattle.lrs_cli_tasks.specs.declared.endings.Ending.TheVariants.{Done, RecordsRefused, QuestionRefused, Differs, NotConfirmed, NotDrafted, Unreadable, Misused, Stopped}
use Rattle.lrs_cli_tasks.specs.Faults.{fault_text, table_text}

-- 0 done, 1 something was refused, 2 the words are not understood, 3 stopped
abbrev pub status_of : Ending → ℕ
status_of Done = 0
status_of RecordsRefused = 1
status_of (QuestionRefused cause) = 1
status_of (Differs table) = 1
status_of NotConfirmed = 1
status_of NotDrafted = 1
status_of (Unreadable word) = 2
status_of Misused = 2
status_of (Stopped fault) = 3

-- why a question was refused, which table differs, which word cannot be read, or which fault stopped the program
abbrev pub last_words : Ending → Text
last_words Done = []
last_words RecordsRefused = []
last_words (QuestionRefused cause) = codes "roadlrs: " ++ cause_text cause ++ 10 ∷ []
last_words (Differs table) = codes "roadlrs: Differs:" ++ table_text table ++ 10 ∷ []
last_words NotConfirmed = codes "roadlrs: nothing is done" ++ 10 ∷ []
last_words NotDrafted = codes "roadlrs: no sheet is drafted" ++ 10 ∷ []
last_words (Unreadable word) = codes "error: " ++ bad_word_text word ++ 10 ∷ []
last_words Misused = []
last_words (Stopped fault) = codes "roadlrs: fault " ++ fault_text fault ++ 10 ∷ []
