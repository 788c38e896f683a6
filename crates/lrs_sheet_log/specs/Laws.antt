-- The laws of the log: it reads as its records, and each of them says the command of its edit; and the sheet of a route is such a log, whose commands make the route.
use Rattle.std.specs.Prelude.{◌≡◌, ℕ, ◌+◌, ◌<◌, ◌≤◌, true, false, List, ◌∷◌, ◌++◌, Option, Some, None, IsTrue, length, map}
use Rattle.std.specs.List.{AllByRecursion, list_all}
use Rattle.std.specs.Option.{option_and_then, option_map, option_or}
use Rattle.lrs_measure.specs.Lists.{each_two}
use Rattle.lrs_measure.specs.Texts.{Name}
use Rattle.lrs_element.specs.declared.link.Ground.{Ground}
use Rattle.lrs_element.specs.Course.{IsFewest, Millimetre, course_of, ground_at}
use Rattle.lrs_position.specs.Locations.{cell, located}
use Rattle.lrs_position.specs.Names.{is_referent_name, is_route_name}
use Rattle.lrs_position.specs.Translations.{referent_at}
use Rattle.lrs_position.specs.declared.route.Referent.{Referent}
use Rattle.lrs_position.specs.declared.route.Route.{Route}
use Rattle.lrs_events.specs.Places.{differs}
use Rattle.lrs_machine.specs.EnteredNumbers.{are_entered_marks, are_entered_pieces, is_chainage}
use Rattle.lrs_machine.specs.Keys.{is_key}
use Rattle.lrs_machine.specs.Laws.{is_known}
use Rattle.lrs_machine.specs.Lines.{line_of}
use Rattle.lrs_machine.specs.Machine.{Record, is_taken, place_of_key, set_route, state_after}
use Rattle.lrs_machine.specs.Register.{contains_key, len}
use Rattle.lrs_machine.specs.State.{Edit, State}
use Rattle.lrs_machine.specs.WellFormedCommands.{IsWellFormed}
use Rattle.lrs_machine.specs.declared.answer.Limits.{Limits}
use Rattle.lrs_sheet_records.specs.Rows.{AreAll}
use Rattle.lrs_sheet_records.specs.CanonicalRecords.{IsInLowestTerms}
use Rattle.lrs_sheet_records.specs.Kinds.{edit_header}
use Rattle.lrs_sheet_records.specs.Records.{SaysCommand}
use Rattle.lrs_sheet_records.specs.Verbs.{arguments_of}
use Rattle.lrs_report_lists.specs.CoursePieces.{pieces_of}
use Rattle.lrs_sheet_log.specs.Log.{edits_between, edits_text, log_record}
use Rattle.lrs_sheet_log.specs.RouteSheets.{at_chainage, chainage_marks, makes_route, route_sheet}

-- A well formed command under a key; a proportion in it is in lowest terms, as fractions are kept.
pub record IsPrintable (r : Record) : Type 0 where
  pub key : IsTrue (is_key r.key)
  pub command : IsWellFormed r.command
  pub lowest : AllByRecursion IsInLowestTerms (arguments_of r.command)

-- the edit that an accepted command is kept as
abbrev pub edit_of : Record → Edit
edit_of r = record { key = r.key; line = line_of r.command }

-- the edit is kept of a well formed command
abbrev pub IsOfCommand : Edit → Type 0
IsOfCommand e = (r : Record) × IsPrintable r × (e ≡ edit_of r)

-- The record of the edit of a well formed command says that command, under its key.
abbrev pub LogRecordsSay : Type 0
LogRecordsSay = (r : Record) → IsPrintable r → SaysCommand (log_record (edit_of r)) r.key r.command

-- By the rules of `csv`, the records of a log are the header and the record of each edit.
abbrev pub LogReadsAsRecords : Type 0
LogReadsAsRecords = (edits : List Edit) → AllByRecursion IsOfCommand edits → AreAll (edits_text edits) (edit_header ∷ map log_record edits)

-- Part of a log is the log of an earlier state: edits up to one and those from the next one on are all edits; and up to the last edit of a state they are its own, whatever commands came then.
pub record LogsHaveParts : Type 0 where
  pub parts : (edits : List Edit) (number : ℕ) → edits_between 1 (Some number) edits ++ edits_between (number + 1) None edits ≡ edits
  pub earlier : (limits : Limits) (commands : List Record) (s : State) → edits_between 1 (Some (length s.done)) (state_after limits commands s).done ≡ s.done

-- A course has the pieces of it, and no list of fewer.
abbrev pub PiecesMakeCourses : Type 0
PiecesMakeCourses = (course : List Ground) → (course_of (pieces_of course) ≡ course) × IsFewest (pieces_of course)

-- A referent is set in exactly its millimetre, where the measure is the chainage.
abbrev pub ReferentsAreSetExactly : Type 0
ReferentsAreSetExactly = (r : Route) (chainage_on : Name → Option ℕ) (x : Referent) → x.at < length r.course
    → option_map (cell (length r.course)) (located (record { course = r.course; marks = chainage_marks (length r.course) }) chainage_on (at_chainage x.at)) ≡ Some x.at

-- a referent whose name and chainage can be entered
abbrev pub IsEnteredReferent : Referent → Type 0
IsEnteredReferent x = IsTrue (is_referent_name x.name) × IsTrue (is_chainage x.at)

-- A route whose parts can be entered, as those of each route of an inventory.
pub record IsEnteredRoute (r : Route) : Type 0 where
  pub name : IsTrue (is_route_name r.name)
  pub pieces : IsTrue (are_entered_pieces (pieces_of r.course))
  pub length : IsTrue (is_chainage (length r.course))
  pub marks : IsTrue (are_entered_marks r.marks)
  pub refs : AllByRecursion IsEnteredReferent r.refs

-- The sheet of a route is the log of the commands that make it: it reads as their records, and each of these says its command, under its key.
pub record ReadsAsMade (r : Route) : Type 0 where
  pub log : route_sheet r ≡ edits_text (map edit_of (makes_route r))
  pub read : AreAll (route_sheet r) (edit_header ∷ map log_record (map edit_of (makes_route r)))
  pub said : AllByRecursion (λ c. SaysCommand (log_record (edit_of c)) c.key c.command) (makes_route r)

abbrev pub RouteSheetsRead : Type 0
RouteSheetsRead = (r : Route) → IsEnteredRoute r → ReadsAsMade r

-- the millimetre of the ground in which a referent of this name stands on the route
abbrev pub referent_ground : Route → Name → Option Millimetre
referent_ground r name = option_and_then (ground_at r.course) (referent_at r.refs name)

-- the state with the route: its course and its marks under its name, and its referents where they stand
abbrev pub with_route : Route → State → State
with_route r s = record (set_route r.name r.course r.marks s) { referents = λ name. option_or (referent_ground r name) (s.referents name) }

-- A state has room for a route: its name and those of its referents are not known; its course runs over known links, over no millimetre twice and over none of another route; no edit has a key of its commands; and the limits leave room for these and for the route.
pub record HasRoomFor (limits : Limits) (s : State) (r : Route) : Type 0 where
  pub name : contains_key s.routes r.name ≡ false
  pub refs : AllByRecursion (λ x. s.referents x.name ≡ None) r.refs
  pub known : list_all (λ g. is_known s (g.link, g.mm)) r.course ≡ true
  pub once : each_two differs r.course ≡ true
  pub free : is_taken s r.course ≡ false
  pub keys : AllByRecursion (λ c. place_of_key c.key s.done ≡ None) (makes_route r)
  pub edits : length s.done + length (makes_route r) ≤ limits.edits
  pub routes : len s.routes < limits.routes

-- The commands that make a route, one after another, make it where there is room for it: its course, its marks and its referents are what they were, each command is an edit, and nothing else changes.
abbrev pub CommandsMakeTheRoute : Type 0
CommandsMakeTheRoute = (limits : Limits) (s : State) (r : Route) → HasRoomFor limits s r
    → state_after limits (makes_route r) s ≡ record (with_route r s) { done = s.done ++ map edit_of (makes_route r) }
