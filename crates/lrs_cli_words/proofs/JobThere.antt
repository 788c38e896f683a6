-- Where `clap` finds no fault with the words, they name a job, and each of its words is there.
use Rattle.std.proofs.Common.{◌≡◌, ◌∙◌, ◌++◌, ◌||◌, ℕ, Bool, true, false, true≢false, not, cond, List, [], ◌∷◌, Option, Some, None, is_some, map, option_map, IfSome, refl, sym, ap, subst, codes}
use Rattle.std.specs.Prelude.{⊤}
use Rattle.std.specs.List.{find, list_any}
use Rattle.std.specs.Option.{option_map_or}
use Rattle.std.specs.Str.{bytes_eq}
use Rattle.std.proofs.lemmas.Slice.Eq.{bytes_eq-Decides}
use Rattle.clap.specs.Walk.{Row, Rule, Text, answers_to, arg_by_id, finished, has_long, has_short, nothing_held, reading_by, walk, walk_from, without}
use Rattle.clap.specs.Takes.{is_given}
use Rattle.clap.specs.Faults.{is_simple_and_free, check_fault, defaults_fault, entered_fault, fault_of, level_fault, settle_fault, walk_fault}
use Rattle.clap.specs.Simple.{App, HasMatchesOf, Shape, built, built_leaf, is_simple, subcommand_rows_of, entered, filled, help_rule, help_shape, inherited, label_of, marked_built, names_of, rows_at, subcommand_of, with_leaf_noted}
use Rattle.clap.specs.declared.ArgMatches.{ArgMatches}
use Rattle.clap.specs.declared.builder.ArgAction.TheVariants.{SetTrue}
use Rattle.clap.specs.declared.error.ErrorKind.TheVariants as kind
use Rattle.clap.specs.declared.parser.matches.ValueSource.TheVariants.{CommandLine}
use Rattle.lrs_cli_words.specs.declared.job.JobName.{JobName}
use Rattle.lrs_cli_words.specs.declared.job.JobName.TheVariants as job
use Rattle.lrs_cli_words.specs.Words.{AreGiven, HasJobWords, flag, jobs, line_of_job, line_of_program, option, rules_of}
use Rattle.lrs_cli_words.proofs.JobNames.{first_none, names_help, no_kinds, second_none, walk_stops}
use Rattle.lrs_cli_words.proofs.JobValues.{Filled, Fills, HasFlags, IsNamed, given_first, lacks, rows-filled, used-filled, with_none-filled, without-filled}

abbrev program : App
program = built line_of_program

-- the line of a job, and that of the help on jobs, as they are built
abbrev shape_at : JobName → Shape
shape_at j = built_leaf (inherited (with_leaf_noted (marked_built line_of_program.top)) (line_of_job j))

abbrev help_at : Shape
help_at = built_leaf help_shape

-- ---- the names of a line: each has help, and some have options before it

abbrev rules_at : JobName → List Rule
rules_at j = (shape_at j).rules

abbrev help_flag : Rule
help_flag = filled help_rule

abbrev flag_at : Text → Rule
flag_at name = filled (flag name)

abbrev option_at : Text → Rule
option_at name = filled (option name)

help_fills : Fills help_flag
help_fills rows e = e

flag_fills : (name : Text) → Fills (flag_at name)
flag_fills name rows e = used-filled SetTrue name _ (codes "true") [] rows e

option_fills : (name : Text) → lacks name ≡ true → Fills (option_at name)
option_fills name lack rows e = with_none-filled name (reading_by (option_at name)) CommandLine (without name rows) lack (without-filled name rows e)

named_if : (c : List Rule) (a : Rule) (b : Bool) (others : Option Rule) → Fills a → IfSome (arg_by_id c a.id) Fills → IfSome others (IsNamed c)
    → IfSome (cond b (Some a) others) (IsNamed c)
named_if c a true others fills waits below = record { fills = fills; waits = waits }
named_if c a false others fills waits below = below

abbrev HasHelp : List Rule → Type 0
HasHelp c = IfSome (arg_by_id c (codes "help")) Fills

is_help : (c : List Rule) → HasHelp c → (b : Bool) → IfSome (cond b (Some help_flag) None) (IsNamed c)
is_help c help b = named_if c help_flag b None help_fills help tt

short_help : (c : List Rule) → HasHelp c → (x : ℕ) → IfSome (cond (has_short help_flag x) (Some help_flag) None) (IsNamed c)
short_help c help x = is_help c help (has_short help_flag x)

-- the first of some options, and of help behind them, that has a long name
abbrev among : List Rule → Text → Option Rule
among [] name = cond (has_long help_flag name) (Some help_flag) None
among (a ∷ others) name = cond (has_long a name) (Some a) (among others name)

-- each option of a line leaves its rows filled
abbrev AllFill : List Rule → List Rule → Type 0
AllFill c [] = ⊤
AllFill c (a ∷ others) = Fills a × IfSome (arg_by_id c a.id) Fills × AllFill c others

long_among : (c options : List Rule) → AllFill c options → HasHelp c → (name : Text) → IfSome (among options name) (IsNamed c)
long_among c [] fill help name = is_help c help (has_long help_flag name)
long_among c (a ∷ others) fill help name = named_if c a (has_long a name) (among others name) fill.0 fill.1 (long_among c others fill.2 help name)

sums_fills : Fills (flag_at (codes "sums"))
sums_fills = flag_fills (codes "sums")

resume_fills : Fills (flag_at (codes "resume"))
resume_fills = flag_fills (codes "resume")

all_fills : Fills (flag_at (codes "all"))
all_fills = flag_fills (codes "all")

whole_fills : Fills (flag_at (codes "whole"))
whole_fills = flag_fills (codes "whole")

ask_fills : Fills (flag_at (codes "ask"))
ask_fills = flag_fills (codes "ask")

diff_fills : Fills (flag_at (codes "diff"))
diff_fills = flag_fills (codes "diff")

text_fills : Fills (flag_at (codes "text"))
text_fills = flag_fills (codes "text")

exact_fills : Fills (flag_at (codes "exact"))
exact_fills = flag_fills (codes "exact")

on_links_fills : Fills (flag_at (codes "on-links"))
on_links_fills = flag_fills (codes "on-links")

sum_fills : Fills (flag_at (codes "sum"))
sum_fills = flag_fills (codes "sum")

survey_fills : Fills (flag_at (codes "survey"))
survey_fills = flag_fills (codes "survey")

log_fills : Fills (flag_at (codes "log"))
log_fills = flag_fills (codes "log")

end_fills : Fills (flag_at (codes "end-on-fault"))
end_fills = flag_fills (codes "end-on-fault")

from_fills : Fills (option_at (codes "from"))
from_fills = option_fills (codes "from") refl

to_fills : Fills (option_at (codes "to"))
to_fills = option_fills (codes "to") refl

route_fills : Fills (option_at (codes "route"))
route_fills = option_fills (codes "route") refl

side_fills : Fills (option_at (codes "side"))
side_fills = option_fills (codes "side") refl

columns_fills : Fills (option_at (codes "columns"))
columns_fills = option_fills (codes "columns") refl

by_fills : Fills (option_at (codes "by"))
by_fills = option_fills (codes "by") refl

gaps_fills : Fills (flag_at (codes "gaps"))
gaps_fills = flag_fills (codes "gaps")

class_fills : Fills (option_at (codes "class"))
class_fills = option_fills (codes "class") refl

asset_fills : Fills (option_at (codes "asset"))
asset_fills = option_fills (codes "asset") refl

edit_fills : Fills (option_at (codes "edit"))
edit_fills = option_fills (codes "edit") refl

since_fills : Fills (option_at (codes "since"))
since_fills = option_fills (codes "since") refl

until_fills : Fills (option_at (codes "until"))
until_fills = option_fills (codes "until") refl

key_fills : Fills (option_at (codes "key"))
key_fills = option_fills (codes "key") refl

number_fills : Fills (option_at (codes "number"))
number_fills = option_fills (codes "number") refl

page_fills : Fills (flag_at (codes "page"))
page_fills = flag_fills (codes "page")

most_reply_fills : Fills (option_at (codes "most-reply"))
most_reply_fills = option_fills (codes "most-reply") refl

abbrev sheet_options : List Rule
sheet_options = flag_at (codes "sums") ∷ flag_at (codes "resume") ∷ flag_at (codes "all") ∷ flag_at (codes "whole") ∷ flag_at (codes "ask") ∷ []

abbrev check_options : List Rule
check_options = flag_at (codes "survey") ∷ flag_at (codes "diff") ∷ []

abbrev serve_options : List Rule
serve_options = flag_at (codes "sums") ∷ flag_at (codes "log") ∷ flag_at (codes "end-on-fault") ∷ option_at (codes "most-reply") ∷ flag_at (codes "page") ∷ []

abbrev end_options : List Rule
end_options = option_at (codes "from") ∷ option_at (codes "to") ∷ []

abbrev row_options : List Rule
row_options =
    option_at (codes "route") ∷ option_at (codes "from") ∷ option_at (codes "to") ∷ option_at (codes "class") ∷ option_at (codes "asset") ∷ flag_at (codes "exact") ∷ flag_at (codes "on-links")
    ∷ flag_at (codes "text") ∷ option_at (codes "columns") ∷ []

abbrev overlay_options : List Rule
overlay_options =
    option_at (codes "route") ∷ option_at (codes "side") ∷ option_at (codes "from") ∷ option_at (codes "to") ∷ flag_at (codes "gaps") ∷ flag_at (codes "text") ∷ option_at (codes "columns") ∷ []

abbrev length_options : List Rule
length_options = option_at (codes "route") ∷ option_at (codes "by") ∷ flag_at (codes "text") ∷ option_at (codes "columns") ∷ []

abbrev history_options : List Rule
history_options = flag_at (codes "text") ∷ option_at (codes "columns") ∷ []

abbrev list_options : List Rule
list_options = option_at (codes "route") ∷ flag_at (codes "exact") ∷ flag_at (codes "text") ∷ option_at (codes "columns") ∷ []

abbrev gone_options : List Rule
gone_options = option_at (codes "edit") ∷ option_at (codes "class") ∷ option_at (codes "since") ∷ option_at (codes "until") ∷ flag_at (codes "text") ∷ option_at (codes "columns") ∷ []

abbrev log_options : List Rule
log_options = option_at (codes "until") ∷ option_at (codes "key") ∷ flag_at (codes "text") ∷ flag_at (codes "sum") ∷ []

abbrev draft_options : List Rule
draft_options = option_at (codes "number") ∷ option_at (codes "key") ∷ []

without_options : (j : JobName) → HasHelp (rules_at j) → ((name : Text) → IfSome (among [] name) (IsNamed (rules_at j)))
without_options j help = long_among (rules_at j) [] tt help

has_flags : (j : JobName) → HasFlags (rules_at j)
has_flags job.Edit = record {
  long = long_among (rules_at job.Edit) sheet_options (sums_fills, sums_fills, (resume_fills, resume_fills, (all_fills, all_fills, (whole_fills, whole_fills, (ask_fills, ask_fills, tt))))) help_fills;
  short = short_help (rules_at job.Edit) help_fills;
}
has_flags job.Survey = record {
  long = long_among (rules_at job.Survey) sheet_options (sums_fills, sums_fills, (resume_fills, resume_fills, (all_fills, all_fills, (whole_fills, whole_fills, (ask_fills, ask_fills, tt))))) help_fills;
  short = short_help (rules_at job.Survey) help_fills;
}
has_flags job.Check = record {
  long = long_among (rules_at job.Check) check_options (survey_fills, survey_fills, (diff_fills, diff_fills, tt)) help_fills;
  short = short_help (rules_at job.Check) help_fills;
}
has_flags job.Tidy = record {
  long = long_among (rules_at job.Tidy) (flag_at (codes "survey") ∷ []) (survey_fills, survey_fills, tt) help_fills;
  short = short_help (rules_at job.Tidy) help_fills;
}
has_flags job.At = record { long = without_options job.At help_fills; short = short_help (rules_at job.At) help_fills }
has_flags job.Where = record { long = without_options job.Where help_fills; short = short_help (rules_at job.Where) help_fills }
has_flags job.Translate = record { long = without_options job.Translate help_fills; short = short_help (rules_at job.Translate) help_fills }
has_flags job.Strip = record { long = without_options job.Strip help_fills; short = short_help (rules_at job.Strip) help_fills }
has_flags job.Diagram = record {
  long = long_among (rules_at job.Diagram) end_options (from_fills, from_fills, (to_fills, to_fills, tt)) help_fills;
  short = short_help (rules_at job.Diagram) help_fills;
}
has_flags job.Totals = record { long = without_options job.Totals help_fills; short = short_help (rules_at job.Totals) help_fills }
has_flags job.Lengths = record {
  long = long_among (rules_at job.Lengths) length_options (route_fills, route_fills, (by_fills, by_fills, (text_fills, text_fills, (columns_fills, columns_fills, tt)))) help_fills;
  short = short_help (rules_at job.Lengths) help_fills;
}
has_flags job.Find = record { long = without_options job.Find help_fills; short = short_help (rules_at job.Find) help_fills }
has_flags job.Route = record { long = without_options job.Route help_fills; short = short_help (rules_at job.Route) help_fills }
has_flags job.Ask = record { long = without_options job.Ask help_fills; short = short_help (rules_at job.Ask) help_fills }
has_flags job.List = record {
  long = long_among (rules_at job.List) list_options (route_fills, route_fills, (exact_fills, exact_fills, (text_fills, text_fills, (columns_fills, columns_fills, tt)))) help_fills;
  short = short_help (rules_at job.List) help_fills;
}
has_flags job.Rows = record {
  long = long_among (rules_at job.Rows) row_options (
    route_fills,
    route_fills,
    (
      from_fills,
      from_fills,
      (
        to_fills,
        to_fills,
        (
          class_fills,
          class_fills,
          (
            asset_fills,
            asset_fills,
            (exact_fills, exact_fills, (on_links_fills, on_links_fills, (text_fills, text_fills, (columns_fills, columns_fills, tt)))),
          ),
        ),
      ),
    ),
  ) help_fills;
  short = short_help (rules_at job.Rows) help_fills;
}
has_flags job.Overlay = record {
  long = long_among (rules_at job.Overlay) overlay_options (
    route_fills,
    route_fills,
    (
      side_fills,
      side_fills,
      (
        from_fills,
        from_fills,
        (
          to_fills,
          to_fills,
          (gaps_fills, gaps_fills, (text_fills, text_fills, (columns_fills, columns_fills, tt))),
        ),
      ),
    ),
  ) help_fills;
  short = short_help (rules_at job.Overlay) help_fills;
}
has_flags job.Gone = record {
  long = long_among (rules_at job.Gone) gone_options
      (edit_fills, edit_fills, (class_fills, class_fills, (since_fills, since_fills, (until_fills, until_fills, (text_fills, text_fills, (columns_fills, columns_fills, tt)))))) help_fills;
  short = short_help (rules_at job.Gone) help_fills;
}
has_flags job.History = record {
  long = long_among (rules_at job.History) history_options (text_fills, text_fills, (columns_fills, columns_fills, tt)) help_fills;
  short = short_help (rules_at job.History) help_fills;
}
has_flags job.Log = record {
  long = long_among (rules_at job.Log) log_options (until_fills, until_fills, (key_fills, key_fills, (text_fills, text_fills, (sum_fills, sum_fills, tt)))) help_fills;
  short = short_help (rules_at job.Log) help_fills;
}
has_flags job.Diff = record {
  long = long_among (rules_at job.Diff) (option_at (codes "since") ∷ []) (since_fills, since_fills, tt) help_fills;
  short = short_help (rules_at job.Diff) help_fills;
}
has_flags job.Draft = record {
  long = long_among (rules_at job.Draft) draft_options (number_fills, number_fills, (key_fills, key_fills, tt)) help_fills;
  short = short_help (rules_at job.Draft) help_fills;
}
has_flags job.Audit = record { long = without_options job.Audit help_fills; short = short_help (rules_at job.Audit) help_fills }
has_flags job.Serve = record {
  long = long_among (rules_at job.Serve) serve_options (sums_fills, sums_fills, (log_fills, log_fills, (end_fills, end_fills, (most_reply_fills, most_reply_fills, (page_fills, page_fills, tt))))) help_fills;
  short = short_help (rules_at job.Serve) help_fills;
}
has_flags job.Page = record { long = without_options job.Page help_fills; short = short_help (rules_at job.Page) help_fills }

-- ---- no word is missing

given_of : (d b : Bool) → (not d || b) ≡ false → d ≡ true
given_of true b e = refl
given_of false b e = absurd (true≢false e)

others_of : (d b : Bool) → (not d || b) ≡ false → b ≡ false
others_of true b e = e
others_of false b e = absurd (true≢false e)

missing_none : (b : Bool) → cond b (kind.MissingRequiredArgument ∷ []) [] ≡ [] → b ≡ false
missing_none false e = refl
missing_none true e = no_kinds kind.MissingRequiredArgument [] e

first_false : (a b : Bool) → (a || b) ≡ false → a ≡ false
first_false true b e = e
first_false false b e = refl

second_false : (a b : Bool) → (a || b) ≡ false → b ≡ false
second_false true b e = absurd (true≢false e)
second_false false b e = e

all_given : (rs : List Rule) (rows : List Row) → Filled rows → list_any (λ r. lacks r.id) rs ≡ false → list_any (λ r. not (is_given r.id rows)) rs ≡ false → AreGiven rs rows
all_given [] rows f none e = tt
all_given (r ∷ rs) rows f none e =
    let b = list_any (λ r. not (is_given r.id rows)) rs in
    let lacking = list_any (λ r. lacks r.id) rs in (
      given_first r.id rows (first_false (lacks r.id) lacking none) f (given_of (is_given r.id rows) b e),
      all_given rs rows f (second_false (lacks r.id) lacking none) (others_of (is_given r.id rows) b e),
    )

-- no word that a job needs may lack its value
none_lack : (j : JobName) → list_any (λ r. lacks r.id) (rules_of j) ≡ false
none_lack job.Edit = refl
none_lack job.Survey = refl
none_lack job.Check = refl
none_lack job.Tidy = refl
none_lack job.At = refl
none_lack job.Where = refl
none_lack job.Translate = refl
none_lack job.Strip = refl
none_lack job.Diagram = refl
none_lack job.Totals = refl
none_lack job.Lengths = refl
none_lack job.Find = refl
none_lack job.Route = refl
none_lack job.Ask = refl
none_lack job.List = refl
none_lack job.Rows = refl
none_lack job.Overlay = refl
none_lack job.Gone = refl
none_lack job.History = refl
none_lack job.Log = refl
none_lack job.Diff = refl
none_lack job.Draft = refl
none_lack job.Audit = refl
none_lack job.Serve = refl
none_lack job.Page = refl

none_missing : (j : JobName) (rows : List Row) → check_fault (shape_at j) rows false ≡ [] → list_any (λ r. not (is_given r.id rows)) (rules_of j) ≡ false
none_missing job.Edit rows e = missing_none _ e
none_missing job.Survey rows e = missing_none _ e
none_missing job.Check rows e = missing_none _ e
none_missing job.Tidy rows e = missing_none _ e
none_missing job.At rows e = missing_none _ e
none_missing job.Where rows e = missing_none _ e
none_missing job.Translate rows e = missing_none _ e
none_missing job.Strip rows e = missing_none _ e
none_missing job.Diagram rows e = missing_none _ e
none_missing job.Totals rows e = missing_none _ e
none_missing job.Lengths rows e = missing_none _ e
none_missing job.Find rows e = missing_none _ e
none_missing job.Route rows e = missing_none _ e
none_missing job.Ask rows e = missing_none _ e
none_missing job.List rows e = missing_none _ e
none_missing job.Rows rows e = missing_none _ e
none_missing job.Overlay rows e = missing_none _ e
none_missing job.Gone rows e = missing_none _ e
none_missing job.History rows e = missing_none _ e
none_missing job.Log rows e = missing_none _ e
none_missing job.Diff rows e = missing_none _ e
none_missing job.Draft rows e = missing_none _ e
none_missing job.Audit rows e = missing_none _ e
none_missing job.Serve rows e = missing_none _ e
none_missing job.Page rows e = missing_none _ e

job_words : (j : JobName) (words : List Text) → level_fault (shape_at j) [] nothing_held words false [] ≡ [] → HasJobWords (Some (rows_at (shape_at j) words))
job_words j words e =
    let s = shape_at j in
    let end = (walk s.rules [] nothing_held words).held in
    let rows = finished s.rules end in
    let after_walk = second_none (walk_fault s [] (walk_from nothing_held) words) _ e in
    let after_settling = second_none (settle_fault s.rules s.args_override_self end) _ after_walk in
    let checked : check_fault s rows false ≡ [] = second_none (defaults_fault _ s.rules) _ after_settling in
    let filled = rows-filled s.rules [] (walk_from nothing_held) words (has_flags j) (record { rows = refl; pending = tt }) in
    (j, refl, all_given (rules_of j) rows filled (none_lack j) (none_missing j rows checked))

-- ---- a line is met

-- the line that was met, if one was, has no fault
abbrev NoFaultBelow : Option Shape → List Text → Type 0
NoFaultBelow met words = option_map_or (λ s. level_fault s [] nothing_held words false []) met [] ≡ []

-- nor has the line of the program
abbrev NoFaultAbove : Option Shape → List Text → List Row → Type 0
NoFaultAbove met words rows = check_fault program.top rows (is_some (option_map (λ s. rows_at s words) met)) ≡ []

abbrev Meets : Option Shape → List Text → Type 0
Meets met words = HasJobWords (option_map (λ s. rows_at s words) met)

pick_one : (b : Bool) (j : JobName) (others : Option Shape) (words : List Text) (rows : List Row)
    → NoFaultBelow (cond b (Some (shape_at j)) others) words → NoFaultAbove (cond b (Some (shape_at j)) others) words rows
    → (NoFaultBelow others words → NoFaultAbove others words rows → Meets others words) → Meets (cond b (Some (shape_at j)) others) words
pick_one true j others words rows below above go = job_words j words below
pick_one false j others words rows below above go = go below above

pick_help : (b : Bool) (words : List Text) (rows : List Row) → (b ≡ true → ⊥) → NoFaultAbove (cond b (Some help_at) None) words rows → Meets (cond b (Some help_at) None) words
pick_help true words rows other above = absurd (other refl)
pick_help false words rows other above = no_kinds kind.MissingSubcommand [] above

abbrev met_among : Text → List JobName → Option Shape
met_among name js = find (λ s. answers_to name (label_of s)) (map shape_at js ++ help_at ∷ [])

pick : (js : List JobName) (name : Text) (words : List Text) (rows : List Row) → (answers_to name (label_of help_at) ≡ true → ⊥)
    → NoFaultBelow (met_among name js) words → NoFaultAbove (met_among name js) words rows → Meets (met_among name js) words
pick [] name words rows other below above = pick_help (answers_to name (label_of help_at)) words rows other above
pick (j ∷ js) name words rows other below above =
    pick_one (answers_to name (label_of (shape_at j))) j (met_among name js) words rows below above (pick js name words rows other)

or_false : (b : Bool) → (b || false) ≡ true → b ≡ true
or_false true e = e
or_false false e = e

help_met : (name : Text) → (bytes_eq (codes "help") name || false) ≡ true → bytes_eq name (codes "help") ≡ true
help_met name h = (bytes_eq-Decides name (codes "help")).1 (sym ((bytes_eq-Decides (codes "help") name).0 (or_false (bytes_eq (codes "help") name) h)))

at_stop : (stop : Option (Text × List Text)) (rows : List Row) → names_help stop ≡ false → entered_fault program stop ≡ []
    → check_fault program.top rows (is_some (entered program stop)) ≡ [] → HasJobWords (entered program stop)
at_stop None rows other below checked = no_kinds kind.MissingSubcommand [] checked
at_stop (Some p) rows other below checked = pick jobs p.0 p.1 rows (λ h. true≢false (sym (help_met p.0 h) ∙ other)) below checked

pub has_job_words : (words : List Text) → fault_of line_of_program words ≡ [] → HasJobWords (subcommand_of line_of_program words)
has_job_words words none =
    let w = walk program.top.rules (names_of program) nothing_held words in
    let after_walk = second_none (walk_fault program.top (names_of program) (walk_from nothing_held) words) _ none in
    let below = first_none (entered_fault program w.stopped) _ after_walk in
    let after_job = second_none (entered_fault program w.stopped) _ after_walk in
    let after_settling = second_none (settle_fault program.top.rules program.top.args_override_self w.held) _ after_job in
    let checked = second_none (defaults_fault _ program.top.rules) _ after_settling in
    let other = walk_stops program.top (names_of program) (walk_from nothing_held) words refl
    (first_none (walk_fault program.top (names_of program) (walk_from nothing_held) words) _ none) refl in
    at_stop w.stopped (finished program.top.rules w.held) other below checked

-- the matches of a parse are those of the line of the program
pub met_rows : (a : App) (words : List Text) (m : ArgMatches) → a ≡ line_of_program → HasMatchesOf a words m → subcommand_rows_of m ≡ subcommand_of line_of_program words
met_rows a words m same found =
    let simple : is_simple a ≡ true = ap is_simple same ∙ refl in
    (found simple).1 ∙ ap (λ (x : App). subcommand_of x words) same

-- the matches of a parse that succeeded have a job's words
pub met_words : (a : App) (words : List Text) (m : ArgMatches) → a ≡ line_of_program → (is_simple_and_free a ≡ true → fault_of a words ≡ []) → HasMatchesOf a words m
    → HasJobWords (subcommand_rows_of m)
met_words a words m same none found =
    let free : is_simple_and_free a ≡ true = ap is_simple_and_free same ∙ refl in
    subst HasJobWords (sym (met_rows a words m same found)) (has_job_words words (sym (ap (λ (x : App). fault_of x words) same) ∙ none free))
