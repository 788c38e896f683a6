-- The words of the program: its command line as `clap` reads it, and what a job says of the words.
use Rattle.std.specs.Prelude.{◌≡◌, ◌≢◌, ◌↔◌, ⊤, IsTrue, Bool, false, List, [], ◌∷◌, ◌++◌, Option, Some, codes, map, fold, true, is_some, IsSomeAnd, option_map, unwrap_or}
use Rattle.clap.specs.Lexer.{usize_max}
use Rattle.clap.specs.Words.{App, IsAmong, Row, Rule, Shape, Text, all_of, fault_of, first_of, new_app, new_rule, subcommand_of, with_subcommand}
use Rattle.clap.specs.Simple.{new_shape}
use Rattle.clap.specs.declared.builder.action.ArgAction.TheVariants.{SetTrue}
use Rattle.clap.specs.declared.error.ErrorKind.{ErrorKind}
use Rattle.clap.specs.declared.error.ErrorKind.TheVariants as kind
use Rattle.lrs_cli_words.specs.declared.job.JobName.{JobName}
use Rattle.lrs_cli_words.specs.declared.job.JobName.TheVariants as job
use Rattle.lrs_cli_words.specs.declared.job.Job.{Job}
use Rattle.lrs_cli_words.specs.declared.job.Job.TheVariants.{Edit, Survey, Check, Tidy, At, Where, Translate, Strip, Diagram, Totals, Lengths, Find, Route, Ask, List as Listing, Rows, Overlay, Gone, History, Log, Diff, Draft, Audit, Serve, Page}

-- ---- the command line

-- a word that has to be there
abbrev pub required : Text → Rule
required id = record (new_rule id) { required = true }

-- the same, and more of its kind may follow it
abbrev pub several : Text → Rule
several id = record (required id) { range = Some (record { start_inclusive = 1; end_inclusive = usize_max }) }

-- words that may be there, none or more of them
abbrev pub any : Text → Rule
any id = record (several id) { required = false }

-- a word that may be there
abbrev pub optional : Text → Rule
optional id = new_rule id

-- an option with no value, which may be given once
abbrev pub flag : Text → Rule
flag name = record (new_rule name) { long = Some name; action = Some SetTrue }

-- an option with one value, which may be given once
abbrev pub option : Text → Rule
option name = record (new_rule name) { long = Some name; value_names = 1 }

abbrev pub name_text : JobName → Text
name_text job.Edit = codes "edit"
name_text job.Survey = codes "survey"
name_text job.Check = codes "check"
name_text job.Tidy = codes "tidy"
name_text job.At = codes "at"
name_text job.Where = codes "where"
name_text job.Translate = codes "translate"
name_text job.Strip = codes "strip"
name_text job.Diagram = codes "diagram"
name_text job.Totals = codes "totals"
name_text job.Lengths = codes "lengths"
name_text job.Find = codes "find"
name_text job.Route = codes "route"
name_text job.Ask = codes "ask"
name_text job.List = codes "list"
name_text job.Rows = codes "rows"
name_text job.Overlay = codes "overlay"
name_text job.Gone = codes "gone"
name_text job.History = codes "history"
name_text job.Log = codes "log"
name_text job.Diff = codes "diff"
name_text job.Draft = codes "draft"
name_text job.Audit = codes "audit"
name_text job.Serve = codes "serve"
name_text job.Page = codes "page"

-- what the words that a job needs are called, in their order
abbrev pub rules_of : JobName → List Rule
rules_of job.Edit = required (codes "DB") ∷ required (codes "SHEET") ∷ []
rules_of job.Survey = required (codes "DB") ∷ required (codes "SHEET") ∷ []
rules_of job.Check = required (codes "DB") ∷ required (codes "SHEET") ∷ []
rules_of job.Tidy = required (codes "FILE") ∷ []
rules_of job.At = required (codes "DB") ∷ required (codes "ROUTE") ∷ required (codes "METHOD") ∷ required (codes "POS") ∷ []
rules_of job.Where = required (codes "DB") ∷ required (codes "ROUTE") ∷ required (codes "PLACE") ∷ []
rules_of job.Translate = required (codes "DB") ∷ required (codes "ROUTE") ∷ required (codes "METHOD") ∷ required (codes "POS") ∷ required (codes "TO") ∷ []
rules_of job.Strip = required (codes "DB") ∷ required (codes "ROUTE") ∷ required (codes "SIDE") ∷ several (codes "CLASS") ∷ []
rules_of job.Diagram = required (codes "DB") ∷ required (codes "ROUTE") ∷ []
rules_of job.Totals = required (codes "DB") ∷ []
rules_of job.Lengths = required (codes "DB") ∷ []
rules_of job.Find = required (codes "DB") ∷ required (codes "ASSET") ∷ []
rules_of job.Route = required (codes "DB") ∷ required (codes "ROUTE") ∷ []
rules_of job.Ask = required (codes "DB") ∷ required (codes "QUESTIONS") ∷ []
rules_of job.List = required (codes "DB") ∷ required (codes "WHAT") ∷ []
rules_of job.Rows = required (codes "DB") ∷ []
rules_of job.Overlay = required (codes "DB") ∷ several (codes "CLASS") ∷ []
rules_of job.Gone = required (codes "DB") ∷ []
rules_of job.History = required (codes "DB") ∷ required (codes "ASSET") ∷ []
rules_of job.Log = required (codes "DB") ∷ []
rules_of job.Diff = required (codes "DB") ∷ []
rules_of job.Draft = required (codes "WHAT") ∷ required (codes "DB") ∷ []
rules_of job.Audit = required (codes "DB") ∷ []
rules_of job.Serve = required (codes "DB") ∷ required (codes "PORT") ∷ required (codes "MAX") ∷ []
rules_of job.Page = required (codes "DIR") ∷ []

-- what may be left out: those jobs that may make a file have `--sums`, those that do a sheet also `--resume`, `--all`, `--whole` and `--ask`, a service also `--log`, `--end-on-fault`, `--most-reply` and `--page`, a check and a tidying say of which kind their sheet is, a check may tell the difference, a difference has another inventory or its first edit, a draft has its words, a number and the front of its keys, a place on a link has its millimetre, a diagram has its classes and its ends, a list may be narrowed, told in another form, and has `--text` and `--columns`, lengths have classes by which they are told, an overlay may be of gaps alone, and a log has its end and its sum
abbrev pub options_of : JobName → List Rule
options_of job.Edit = flag (codes "sums") ∷ flag (codes "resume") ∷ flag (codes "all") ∷ flag (codes "whole") ∷ flag (codes "ask") ∷ []
options_of job.Survey = flag (codes "sums") ∷ flag (codes "resume") ∷ flag (codes "all") ∷ flag (codes "whole") ∷ flag (codes "ask") ∷ []
options_of job.Check = flag (codes "survey") ∷ flag (codes "diff") ∷ []
options_of job.Tidy = flag (codes "survey") ∷ []
options_of job.Serve = flag (codes "sums") ∷ flag (codes "log") ∷ flag (codes "end-on-fault") ∷ option (codes "most-reply") ∷ flag (codes "page") ∷ []
options_of job.Where = optional (codes "MM") ∷ []
options_of job.Lengths = option (codes "route") ∷ option (codes "by") ∷ flag (codes "text") ∷ option (codes "columns") ∷ []
options_of job.List = option (codes "route") ∷ flag (codes "exact") ∷ flag (codes "text") ∷ option (codes "columns") ∷ []
options_of job.Diagram = any (codes "CLASS") ∷ option (codes "from") ∷ option (codes "to") ∷ []
options_of job.Rows =
    option (codes "route") ∷ option (codes "from") ∷ option (codes "to") ∷ option (codes "class") ∷ option (codes "asset") ∷ flag (codes "exact") ∷ flag (codes "on-links") ∷ flag (codes "text") ∷ option (codes "columns") ∷ []
options_of job.Overlay =
    option (codes "route") ∷ option (codes "side") ∷ option (codes "from") ∷ option (codes "to") ∷ flag (codes "gaps") ∷ flag (codes "text") ∷ option (codes "columns") ∷ []
options_of job.Gone = option (codes "edit") ∷ option (codes "class") ∷ option (codes "since") ∷ option (codes "until") ∷ flag (codes "text") ∷ option (codes "columns") ∷ []
options_of job.History = flag (codes "text") ∷ option (codes "columns") ∷ []
options_of job.Log = optional (codes "FROM") ∷ option (codes "until") ∷ option (codes "key") ∷ flag (codes "text") ∷ flag (codes "sum") ∷ []
options_of job.Diff = any (codes "OTHER") ∷ option (codes "since") ∷ []
options_of job.Draft = any (codes "WORD") ∷ option (codes "number") ∷ option (codes "key") ∷ []
options_of _ = []

-- the line of a job: its name, its words and its options
abbrev pub line_of_job : JobName → Shape
line_of_job j = record (new_shape (name_text j)) { rules = rules_of j ++ options_of j }

abbrev pub app_of_job : JobName → App
app_of_job j = record { top = line_of_job j; subs = [] }

-- a line that may go on as that of a job
abbrev pub with_job : App → JobName → App
with_job a j = with_subcommand a (line_of_job j)

-- all jobs
abbrev pub jobs : List JobName
jobs =
    job.Edit ∷ job.Survey ∷ job.Check ∷ job.Tidy ∷ job.At ∷ job.Where ∷ job.Translate ∷ job.Strip ∷ job.Diagram ∷ job.Totals ∷ job.Lengths ∷ job.Find ∷ job.Route ∷ job.Ask ∷ job.List
    ∷ job.Rows ∷ job.Overlay ∷ job.Gone ∷ job.History ∷ job.Log ∷ job.Diff ∷ job.Draft ∷ job.Audit ∷ job.Serve ∷ job.Page ∷ []

abbrev pub bare_line : App
bare_line = record (new_app (codes "roadlrs")) {
  top = record (new_shape (codes "roadlrs")) { no_binary_name = true; subcommand_required = true; has_version = true };
}

-- `roadlrs`, followed by one of its jobs
abbrev pub line_of_program : App
line_of_program = fold with_job bare_line jobs

-- ---- jobs

abbrev pub job_name : Job → JobName
job_name (Edit db sheet sums resume all whole ask) = job.Edit
job_name (Survey db sheet sums resume all whole ask) = job.Survey
job_name (Check db sheet survey diff) = job.Check
job_name (Tidy file survey) = job.Tidy
job_name (At db route method position) = job.At
job_name (Where db route place mm) = job.Where
job_name (Translate db route method position to) = job.Translate
job_name (Strip db route side classes) = job.Strip
job_name (Diagram db route classes from to) = job.Diagram
job_name (Totals db) = job.Totals
job_name (Lengths db route by text columns) = job.Lengths
job_name (Find db asset) = job.Find
job_name (Route db route) = job.Route
job_name (Ask db questions) = job.Ask
job_name (Listing db what route exact text columns) = job.List
job_name (Rows db route from to class asset exact on_links text columns) = job.Rows
job_name (Overlay db classes route side from to gaps text columns) = job.Overlay
job_name (Gone db edit class since until text columns) = job.Gone
job_name (History db asset text columns) = job.History
job_name (Log db from until key text sum) = job.Log
job_name (Diff db others since) = job.Diff
job_name (Draft what db words number key) = job.Draft
job_name (Audit db) = job.Audit
job_name (Serve db port max sums log end_on_fault most_reply page) = job.Serve
job_name (Page dir) = job.Page

-- its words that stand once, each with what it is called
abbrev pub words_of : Job → List (Text × Text)
words_of (Edit db sheet sums resume all whole ask) = (codes "DB", db.now) ∷ (codes "SHEET", sheet.now) ∷ []
words_of (Survey db sheet sums resume all whole ask) = (codes "DB", db.now) ∷ (codes "SHEET", sheet.now) ∷ []
words_of (Check db sheet survey diff) = (codes "DB", db.now) ∷ (codes "SHEET", sheet.now) ∷ []
words_of (Tidy file survey) = (codes "FILE", file.now) ∷ []
words_of (At db route method position) = (codes "DB", db.now) ∷ (codes "ROUTE", route.now) ∷ (codes "METHOD", method.now) ∷ (codes "POS", position.now) ∷ []
words_of (Where db route place mm) = (codes "DB", db.now) ∷ (codes "ROUTE", route.now) ∷ (codes "PLACE", place.now) ∷ []
words_of (Translate db route method position to) =
    (codes "DB", db.now) ∷ (codes "ROUTE", route.now) ∷ (codes "METHOD", method.now) ∷ (codes "POS", position.now) ∷ (codes "TO", to.now) ∷ []
words_of (Strip db route side classes) = (codes "DB", db.now) ∷ (codes "ROUTE", route.now) ∷ (codes "SIDE", side.now) ∷ []
words_of (Diagram db route classes from to) = (codes "DB", db.now) ∷ (codes "ROUTE", route.now) ∷ []
words_of (Totals db) = (codes "DB", db.now) ∷ []
words_of (Lengths db route by text columns) = (codes "DB", db.now) ∷ []
words_of (Find db asset) = (codes "DB", db.now) ∷ (codes "ASSET", asset.now) ∷ []
words_of (Route db route) = (codes "DB", db.now) ∷ (codes "ROUTE", route.now) ∷ []
words_of (Ask db questions) = (codes "DB", db.now) ∷ (codes "QUESTIONS", questions.now) ∷ []
words_of (Listing db what route exact text columns) = (codes "DB", db.now) ∷ (codes "WHAT", what.now) ∷ []
words_of (Rows db route from to class asset exact on_links text columns) = (codes "DB", db.now) ∷ []
words_of (Overlay db classes route side from to gaps text columns) = (codes "DB", db.now) ∷ []
words_of (Gone db edit class since until text columns) = (codes "DB", db.now) ∷ []
words_of (History db asset text columns) = (codes "DB", db.now) ∷ (codes "ASSET", asset.now) ∷ []
words_of (Log db from until key text sum) = (codes "DB", db.now) ∷ []
words_of (Diff db others since) = (codes "DB", db.now) ∷ []
words_of (Draft what db words number key) = (codes "WHAT", what.now) ∷ (codes "DB", db.now) ∷ []
words_of (Audit db) = (codes "DB", db.now) ∷ []
words_of (Serve db port max sums log end_on_fault most_reply page) = (codes "DB", db.now) ∷ (codes "PORT", port.now) ∷ (codes "MAX", max.now) ∷ []
words_of (Page dir) = (codes "DIR", dir.now) ∷ []

-- the classes of a strip, a diagram or an overlay, the other inventory of a difference and the words of a draft are all the words of their place
abbrev pub HasClasses : Job → List Row → Type 0
HasClasses (Strip db route side classes) rows = all_of (codes "CLASS") rows ≡ Some (map (λ w. w.now) classes.items)
HasClasses (Diagram db route classes from to) rows = unwrap_or (all_of (codes "CLASS") rows) [] ≡ map (λ w. w.now) classes.items
HasClasses (Overlay db classes route side from to gaps text columns) rows = all_of (codes "CLASS") rows ≡ Some (map (λ w. w.now) classes.items)
HasClasses (Diff db others since) rows = unwrap_or (all_of (codes "OTHER") rows) [] ≡ map (λ w. w.now) others.items
HasClasses (Draft what db words number key) rows = unwrap_or (all_of (codes "WORD") rows) [] ≡ map (λ w. w.now) words.items
HasClasses _ rows = ⊤

-- the first word of this id is the one that may have been given
abbrev pub IsValue : Text → List Row → Option Text → Type 0
IsValue id rows word = first_of id rows ≡ word

-- the ends of a diagram, the millimetre of a link, what narrows a list, the classes of lengths, columns, and the length of replies, are the values that were given
abbrev pub HasValues : Job → List Row → Type 0
HasValues (Diagram db route classes from to) rows =
    IsValue (codes "from") rows (option_map (λ w. w.now) from) × IsValue (codes "to") rows (option_map (λ w. w.now) to)
HasValues (Rows db route from to class asset exact on_links text columns) rows =
    IsValue (codes "route") rows (option_map (λ w. w.now) route) × IsValue (codes "from") rows (option_map (λ w. w.now) from)
    × IsValue (codes "to") rows (option_map (λ w. w.now) to) × IsValue (codes "class") rows (option_map (λ w. w.now) class)
    × IsValue (codes "asset") rows (option_map (λ w. w.now) asset) × IsValue (codes "columns") rows (option_map (λ w. w.now) columns)
HasValues (Overlay db classes route side from to gaps text columns) rows =
    IsValue (codes "route") rows (option_map (λ w. w.now) route) × IsValue (codes "side") rows (option_map (λ w. w.now) side)
    × IsValue (codes "from") rows (option_map (λ w. w.now) from) × IsValue (codes "to") rows (option_map (λ w. w.now) to)
    × IsValue (codes "columns") rows (option_map (λ w. w.now) columns)
HasValues (Where db route place mm) rows = IsValue (codes "MM") rows (option_map (λ w. w.now) mm)
HasValues (Lengths db route by text columns) rows =
    IsValue (codes "route") rows (option_map (λ w. w.now) route) × IsValue (codes "by") rows (option_map (λ w. w.now) by)
    × IsValue (codes "columns") rows (option_map (λ w. w.now) columns)
HasValues (Listing db what route exact text columns) rows = IsValue (codes "route") rows (option_map (λ w. w.now) route) × IsValue (codes "columns") rows (option_map (λ w. w.now) columns)
HasValues (Gone db edit class since until text columns) rows =
    IsValue (codes "edit") rows (option_map (λ w. w.now) edit) × IsValue (codes "class") rows (option_map (λ w. w.now) class)
    × IsValue (codes "since") rows (option_map (λ w. w.now) since) × IsValue (codes "until") rows (option_map (λ w. w.now) until)
    × IsValue (codes "columns") rows (option_map (λ w. w.now) columns)
HasValues (History db asset text columns) rows = IsValue (codes "columns") rows (option_map (λ w. w.now) columns)
HasValues (Log db from until key text sum) rows =
    IsValue (codes "FROM") rows (option_map (λ w. w.now) from) × IsValue (codes "until") rows (option_map (λ w. w.now) until)
    × IsValue (codes "key") rows (option_map (λ w. w.now) key)
HasValues (Diff db others since) rows = IsValue (codes "since") rows (option_map (λ w. w.now) since)
HasValues (Draft what db words number key) rows = IsValue (codes "number") rows (option_map (λ w. w.now) number) × IsValue (codes "key") rows (option_map (λ w. w.now) key)
HasValues (Serve db port max sums log end_on_fault most_reply page) rows = IsValue (codes "most-reply") rows (option_map (λ w. w.now) most_reply)
HasValues _ rows = ⊤

-- the option was given: `clap` reads `true` for it, and else `false`
abbrev pub IsSet : Text → List Row → Type 0
IsSet id rows = first_of id rows ≡ Some (codes "true")

-- a new file gets sums exactly where `--sums` was given
abbrev pub HasSums : Job → List Row → Type 0
HasSums (Edit db sheet sums resume all whole ask) rows = IsTrue sums ↔ IsSet (codes "sums") rows
HasSums (Survey db sheet sums resume all whole ask) rows = IsTrue sums ↔ IsSet (codes "sums") rows
HasSums (Serve db port max sums log end_on_fault most_reply page) rows = IsTrue sums ↔ IsSet (codes "sums") rows
HasSums _ rows = ⊤

-- a sheet goes on behind its last record that is an edit exactly where `--resume` was given
abbrev pub HasResume : Job → List Row → Type 0
HasResume (Edit db sheet sums resume all whole ask) rows = IsTrue resume ↔ IsSet (codes "resume") rows
HasResume (Survey db sheet sums resume all whole ask) rows = IsTrue resume ↔ IsSet (codes "resume") rows
HasResume _ rows = ⊤

-- a sheet is done only if no record is refused exactly where `--all` was given
abbrev pub HasAll : Job → List Row → Type 0
HasAll (Edit db sheet sums resume all whole ask) rows = IsTrue all ↔ IsSet (codes "all") rows
HasAll (Survey db sheet sums resume all whole ask) rows = IsTrue all ↔ IsSet (codes "all") rows
HasAll _ rows = ⊤

-- a sheet is done only if its last line has an end exactly where `--whole` was given
abbrev pub HasWhole : Job → List Row → Type 0
HasWhole (Edit db sheet sums resume all whole ask) rows = IsTrue whole ↔ IsSet (codes "whole") rows
HasWhole (Survey db sheet sums resume all whole ask) rows = IsTrue whole ↔ IsSet (codes "whole") rows
HasWhole _ rows = ⊤

-- a sheet is done only where that is confirmed exactly where `--ask` was given
abbrev pub HasAsk : Job → List Row → Type 0
HasAsk (Edit db sheet sums resume all whole ask) rows = IsTrue ask ↔ IsSet (codes "ask") rows
HasAsk (Survey db sheet sums resume all whole ask) rows = IsTrue ask ↔ IsSet (codes "ask") rows
HasAsk _ rows = ⊤

-- each cell of a list is written as text exactly where `--text` was given
abbrev pub HasText : Job → List Row → Type 0
HasText (Lengths db route by text columns) rows = IsTrue text ↔ IsSet (codes "text") rows
HasText (Listing db what route exact text columns) rows = IsTrue text ↔ IsSet (codes "text") rows
HasText (Rows db route from to class asset exact on_links text columns) rows = IsTrue text ↔ IsSet (codes "text") rows
HasText (Overlay db classes route side from to gaps text columns) rows = IsTrue text ↔ IsSet (codes "text") rows
HasText (Gone db edit class since until text columns) rows = IsTrue text ↔ IsSet (codes "text") rows
HasText (History db asset text columns) rows = IsTrue text ↔ IsSet (codes "text") rows
HasText (Log db from until key text sum) rows = IsTrue text ↔ IsSet (codes "text") rows
HasText _ rows = ⊤

-- measures are exact where `--exact` was given, stretches are told on links where `--on-links` was, gaps alone where `--gaps` was, and a difference where `--diff` was, and not else
abbrev pub HasForm : Job → List Row → Type 0
HasForm (Listing db what route exact text columns) rows = IsTrue exact ↔ IsSet (codes "exact") rows
HasForm (Rows db route from to class asset exact on_links text columns) rows = (IsTrue exact ↔ IsSet (codes "exact") rows) × (IsTrue on_links ↔ IsSet (codes "on-links") rows)
HasForm (Overlay db classes route side from to gaps text columns) rows = IsTrue gaps ↔ IsSet (codes "gaps") rows
HasForm (Check db sheet survey diff) rows = IsTrue diff ↔ IsSet (codes "diff") rows
HasForm _ rows = ⊤

-- the sum of a log is asked for exactly where `--sum` was given
abbrev pub HasSum : Job → List Row → Type 0
HasSum (Log db from until key text sum) rows = IsTrue sum ↔ IsSet (codes "sum") rows
HasSum _ rows = ⊤

-- a survey is checked or tidied exactly where `--survey` was given
abbrev pub HasKind : Job → List Row → Type 0
HasKind (Check db sheet survey diff) rows = IsTrue survey ↔ IsSet (codes "survey") rows
HasKind (Tidy file survey) rows = IsTrue survey ↔ IsSet (codes "survey") rows
HasKind _ rows = ⊤

-- a service tells its requests exactly where `--log` was given, ends on a fault exactly where `--end-on-fault` was, and shows the page exactly where `--page` was
abbrev pub HasManner : Job → List Row → Type 0
HasManner (Serve db port max sums log end_on_fault most_reply page) rows =
    (IsTrue log ↔ IsSet (codes "log") rows) × (IsTrue end_on_fault ↔ IsSet (codes "end-on-fault") rows) × (IsTrue page ↔ IsSet (codes "page") rows)
HasManner _ rows = ⊤

-- its words stand in their places, and its options are as they were given
abbrev pub HasWords : Job → List Row → Type 0
HasWords j rows = (map (λ w. first_of w.0 rows) (words_of j) ≡ map (λ w. Some w.1) (words_of j)) × HasClasses j rows × HasValues j rows × HasSums j rows × HasResume j rows × HasAll j rows × HasWhole j rows × HasAsk j rows × HasText j rows × HasForm j rows × HasSum j rows × HasKind j rows × HasManner j rows

-- the job that was met has this name and these rows
abbrev pub IsMet : Job → Option (Text × List Row) → Type 0
IsMet j met = IsSomeAnd met (λ m. (m.0 ≡ name_text (job_name j)) × HasWords j m.1)

-- the words, read by `clap`, are those of this job
abbrev pub IsJobOf : List Text → Job → Type 0
IsJobOf words j = IsMet j (subcommand_of line_of_program words)

-- a file that the job makes gets sums of its pages
abbrev pub has_new_sums : Job → Bool
has_new_sums (Edit db sheet sums resume all whole ask) = sums
has_new_sums (Survey db sheet sums resume all whole ask) = sums
has_new_sums (Serve db port max sums log end_on_fault most_reply page) = sums
has_new_sums _ = false

-- ---- words that are no job

-- the words ask for help
abbrev pub AsksForHelp : List Text → Type 0
AsksForHelp words = IsAmong kind.DisplayHelp (fault_of line_of_program words)

-- the words ask for the version
abbrev pub AsksForVersion : List Text → Type 0
AsksForVersion words = IsAmong kind.DisplayVersion (fault_of line_of_program words)

-- `clap` has another fault to find with the words
abbrev pub IsMisused : List Text → Type 0
IsMisused words = (k : ErrorKind) × (k ≢ kind.DisplayHelp) × (k ≢ kind.DisplayVersion) × IsAmong k (fault_of line_of_program words)

-- ---- what is there

-- each of these words was given
abbrev pub AreGiven : List Rule → List Row → Type 0
AreGiven [] rows = ⊤
AreGiven (r ∷ rs) rows = (is_some (first_of r.id rows) ≡ true) × AreGiven rs rows

-- a job was met, and each of its words was given
abbrev pub HasJobWords : Option (Text × List Row) → Type 0
HasJobWords met = IsSomeAnd met (λ m. (j : JobName) × (m.0 ≡ name_text j) × AreGiven (rules_of j) m.1)
