-- A route as an edit sheet: the commands that make it, and the text of their records.
use Rattle.std.specs.Prelude.{ℕ, pos, if◌then◌else◌, List, [], ◌∷◌, ◌++◌, length, map}
use Rattle.std.specs.List.{flat_map}
use Rattle.lrs_measure.specs.Lists.{is_nothing}
use Rattle.lrs_measure.specs.Texts.{Name}
use Rattle.lrs_element.specs.declared.marks.Mark.{Mark}
use Rattle.lrs_position.specs.declared.expression.Expr.{Expr}
use Rattle.lrs_position.specs.declared.expression.Expr.TheVariants.{Abs}
use Rattle.lrs_position.specs.declared.route.Referent.{Referent}
use Rattle.lrs_position.specs.declared.route.Route.{Route}
use Rattle.lrs_machine.specs.Lines.{Text}
use Rattle.lrs_machine.specs.Machine.{Record}
use Rattle.lrs_machine.specs.declared.command.Command.{Command}
use Rattle.lrs_machine.specs.declared.command.Command.TheVariants as verb
use Rattle.lrs_sheet_records.specs.CanonicalRecords.{record_of}
use Rattle.lrs_sheet_records.specs.Kinds.{edit_header, width_of}
use Rattle.lrs_sheet_records.specs.Verbs.{verb_of}
use Rattle.lrs_sheet_records.specs.declared.sheet.Sheet.TheVariants.{Edits}
use Rattle.lrs_report_lists.specs.CoursePieces.{pieces_of}
use Rattle.lrs_sheet_log.specs.Log.{padded, record_text}

-- ---- the commands that make a route

-- marks by which the measure is the chainage
abbrev pub chainage_marks : ℕ → List Mark
chainage_marks len = record { chainage = 0; measure = 0 } ∷ record { chainage = len; measure = len } ∷ []

-- a command under its verb and a name, with a dash between them
abbrev pub under_name : Name → Command → Record
under_name name command = record { key = verb_of command ++ 45 ∷ name; command = command }

-- the route is laid over its course, with these marks
abbrev pub laid : Route → List Mark → Record
laid r marks = under_name r.name (verb.Route r.name (pieces_of r.course) marks)

-- a chainage, where it is the measure
abbrev pub at_chainage : ℕ → Expr
at_chainage c = Abs (record { num = pos c; den = 1 })

-- a referent is set in its millimetre of the route
abbrev pub set_on : Name → Referent → Record
set_on route x = under_name x.name (verb.Ref x.name route (at_chainage x.at))

-- the route gets its marks
abbrev pub calibrated : Route → Record
calibrated r = under_name r.name (verb.Recalibrate r.name r.marks)

-- with referents: the route with its chainage as the measure, each referent in its millimetre, and then the marks
abbrev pub laid_with_referents : Route → List Record
laid_with_referents r = laid r (chainage_marks (length r.course)) ∷ map (set_on r.name) r.refs ++ calibrated r ∷ []

-- The commands that make a route on its links.
abbrev pub makes_route : Route → List Record
makes_route r = if is_nothing r.refs then laid r r.marks ∷ [] else laid_with_referents r

-- ---- their text

-- a command as a line: the record as which it is printed, with empty fields up to the width of an edit sheet
abbrev pub command_line : Record → Text
command_line c = record_text (padded (width_of Edits) (record_of c.key c.command))

-- The sheet of a route: the header of an edit sheet, and a line for each of these commands.
abbrev pub route_sheet : Route → Text
route_sheet r = record_text edit_header ++ flat_map command_line (makes_route r)
