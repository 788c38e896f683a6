-- What a job has the program do.
use Rattle.std.specs.Prelude.{◌≡◌, ◌⊎◌, ⊤, Bool, true, false, codes, List, ◌∷◌, map, Option, Some, None, option_map}
use Rattle.clap.specs.Words.{Text}
use Rattle.lrs_machine.specs.declared.question.Question.{Question}
use Rattle.lrs_sheet_records.specs.declared.sheet.Sheet.{Sheet}
use Rattle.lrs_sheet_records.specs.declared.sheet.Sheet.TheVariants.{Edits, Survey}
use Rattle.lrs_cli_words.specs.declared.comparison.Compared.TheVariants as compared
use Rattle.lrs_cli_words.specs.declared.job.Job.{Job}
use Rattle.lrs_cli_words.specs.declared.job.Job.TheVariants as job
use Rattle.lrs_cli_words.specs.declared.question.QuestionFault.{QuestionFault}
use Rattle.lrs_cli_words.specs.Questions.{Asks, IsFaultOf, SaysCompared, SaysService, SaysSummed}
use Rattle.lrs_cli_tasks.specs.Columns.{ArePicked, CannotPick, columns_of}
use Rattle.lrs_cli_tasks.specs.declared.task.DraftWords.{DraftWords}
use Rattle.lrs_cli_tasks.specs.declared.task.ListForm.{ListForm}
use Rattle.lrs_cli_tasks.specs.declared.task.Task.{Task}
use Rattle.lrs_cli_tasks.specs.declared.task.Task.TheVariants as task
use Rattle.lrs_cli_tasks.specs.declared.task.Work.{Work}
use Rattle.lrs_cli_tasks.specs.declared.task.Work.TheVariants as work

-- the inventory that it names; none for the page, or to tidy a sheet
abbrev pub inventory_of : Job → Option Text
inventory_of (job.Edit db sheet sums resume all whole ask) = Some db.now
inventory_of (job.Survey db sheet sums resume all whole ask) = Some db.now
inventory_of (job.Check db sheet survey diff) = Some db.now
inventory_of (job.At db route method position) = Some db.now
inventory_of (job.Where db route place mm) = Some db.now
inventory_of (job.Translate db route method position to) = Some db.now
inventory_of (job.Strip db route side classes) = Some db.now
inventory_of (job.Diagram db route classes from to) = Some db.now
inventory_of (job.Totals db) = Some db.now
inventory_of (job.Lengths db route by text columns) = Some db.now
inventory_of (job.Find db asset) = Some db.now
inventory_of (job.Route db route) = Some db.now
inventory_of (job.Ask db questions) = Some db.now
inventory_of (job.List db what route exact text columns) = Some db.now
inventory_of (job.Rows db route from to class asset exact on_links text columns) = Some db.now
inventory_of (job.Overlay db classes route side from to gaps text columns) = Some db.now
inventory_of (job.Gone db edit class since until text columns) = Some db.now
inventory_of (job.History db asset text columns) = Some db.now
inventory_of (job.Log db from until key text sum) = Some db.now
inventory_of (job.Diff db others since) = Some db.now
inventory_of (job.Draft what db words number key) = Some db.now
inventory_of (job.Audit db) = Some db.now
inventory_of (job.Serve db port max sums log end_on_fault most_reply page) = Some db.now
inventory_of (job.Page dir) = None
inventory_of (job.Tidy file survey) = None

-- of which kind a sheet is that is checked or tidied
abbrev pub kind_of : Bool → Sheet
kind_of true = Survey
kind_of false = Edits

-- each cell of what the job lists is written as text
abbrev pub has_text_cells : Job → Bool
has_text_cells (job.Lengths db route by text columns) = text
has_text_cells (job.List db what route exact text columns) = text
has_text_cells (job.Rows db route from to class asset exact on_links text columns) = text
has_text_cells (job.Overlay db classes route side from to gaps text columns) = text
has_text_cells (job.Gone db edit class since until text columns) = text
has_text_cells (job.History db asset text columns) = text
has_text_cells (job.Log db from until key text sum) = text
has_text_cells _ = false

-- the text that names the columns of what the job lists
abbrev pub columns_given : Job → Option Text
columns_given (job.Lengths db route by text columns) = option_map (λ w. w.now) columns
columns_given (job.List db what route exact text columns) = option_map (λ w. w.now) columns
columns_given (job.Rows db route from to class asset exact on_links text columns) = option_map (λ w. w.now) columns
columns_given (job.Overlay db classes route side from to gaps text columns) = option_map (λ w. w.now) columns
columns_given (job.Gone db edit class since until text columns) = option_map (λ w. w.now) columns
columns_given (job.History db asset text columns) = option_map (λ w. w.now) columns
columns_given _ = None

-- the list that answers a question of the job is written in this form
pub record IsFormOf (j : Job) (q : Question) (form : ListForm) : Type 0 where
  pub columns : ArePicked (columns_of q) (columns_given j) form.columns
  pub as_text : form.as_text ≡ has_text_cells j

-- the words of a draft are those of the job
pub record AreDraftWords (what : Text) (words : List Text) (number key : Option Text) (given : DraftWords) : Type 0 where
  pub is_what : given.what.now ≡ what
  pub are_words : map (λ w. w.now) given.words.now ≡ words
  pub is_number : option_map (λ w. w.now) given.number ≡ number
  pub is_key : option_map (λ w. w.now) given.key ≡ key

-- whether a sheet is done is read from the standard input: so the sheet itself is not
abbrev pub MayAsk : Text → Bool → Type 0
MayAsk sheet asks = asks ≡ true → sheet ≡ codes "stdin" → ⊥

-- `edit` does an edit sheet, `survey` a survey, `check` tries one, `diff --since` tells what edits changed, `draft` writes a sheet, `ask` answers a sheet of questions, `audit` audits, `log --sum` sums the log, `serve` serves where and how its words say, and every other job asks what they say, and has the answer written in the form that it says
abbrev pub IsWorkOf : Job → Work → Type 0
IsWorkOf (job.Edit db sheet sums resume all whole ask) (work.Sheet kind from resumes at_once with_end asks) =
    (kind ≡ Edits) × (from.now ≡ sheet.now) × (resumes ≡ resume) × (at_once ≡ all) × (with_end ≡ whole) × (asks ≡ ask) × MayAsk sheet.now ask
IsWorkOf (job.Survey db sheet sums resume all whole ask) (work.Sheet kind from resumes at_once with_end asks) =
    (kind ≡ Survey) × (from.now ≡ sheet.now) × (resumes ≡ resume) × (at_once ≡ all) × (with_end ≡ whole) × (asks ≡ ask) × MayAsk sheet.now ask
IsWorkOf (job.Check db sheet survey diff) (work.Check kind from differs) = (kind ≡ kind_of survey) × (from.now ≡ sheet.now) × (differs ≡ diff)
IsWorkOf (job.Ask db questions) (work.Questions from) = from.now ≡ questions.now
IsWorkOf (job.Diff db others since) (work.Since edit) = SaysCompared (db.now ∷ map (λ w. w.now) others.items) (option_map (λ w. w.now) since) (compared.Since edit)
IsWorkOf (job.Draft what db words number key) (work.Draft given) = AreDraftWords what.now (map (λ w. w.now) words.items) (option_map (λ w. w.now) number) (option_map (λ w. w.now) key) given
IsWorkOf (job.Audit db) work.Audit = ⊤
IsWorkOf (job.Log db from until key text true) (work.Sum up_to) =
    SaysSummed (option_map (λ w. w.now) from) (option_map (λ w. w.now) until) (option_map (λ w. w.now) key) up_to
IsWorkOf (job.Serve db port max sums log end_on_fault most_reply page) (work.Service service) = SaysService port.now max.now log end_on_fault (option_map (λ w. w.now) most_reply) page service
IsWorkOf j (work.Question question form) = Asks j question × IsFormOf j question form
IsWorkOf j w = ⊥

-- `page` has a folder, `tidy` a file, `diff` two inventories unless it has an edit, and every other job an inventory and what is done with it
abbrev pub IsTaskOf : Job → Task → Type 0
IsTaskOf (job.Page dir) (task.Page folder) = folder.now ≡ dir.now
IsTaskOf (job.Tidy file survey) (task.Tidy kind from) = (kind ≡ kind_of survey) × (from.now ≡ file.now)
IsTaskOf (job.Diff db others since) (task.Difference before after) = SaysCompared (db.now ∷ map (λ w. w.now) others.items) (option_map (λ w. w.now) since) (compared.Inventories before after)
IsTaskOf j (task.Inventory db w) = (inventory_of j ≡ Some db.now) × IsWorkOf j w
IsTaskOf j t = ⊥

-- the fault is a word of the job that cannot be read, or its columns are none of the list that answers its question
abbrev pub IsUnread : Job → QuestionFault → Type 0
IsUnread j fault = IsFaultOf j fault ⊎ ((q : Question) × Asks j q × CannotPick (columns_of q) (columns_given j) fault)
