-- The record that a command is printed as: its verb and the text of each of its arguments, by the table of verbs.
use Rattle.std.specs.Prelude.{List, [], ◌∷◌, ◌++◌, ⊤, codes, map}
use Rattle.std.specs.Fmt.{decimal}
use Rattle.lrs_measure.specs.Fraction.{IsLowest}
use Rattle.lrs_position.specs.Readings.{method_text}
use Rattle.lrs_position.specs.declared.expression.Expr.TheVariants as expression
use Rattle.lrs_events.specs.Names.{kind_text, side_text}
use Rattle.lrs_machine.specs.Lines as line
use Rattle.lrs_machine.specs.Lines.{Text, fields, words, expression_text, pieces_text, marks_text}
use Rattle.lrs_machine.specs.declared.command.Command.{Command}
use Rattle.lrs_machine.specs.declared.question.Place.{Place}
use Rattle.lrs_machine.specs.declared.question.Place.TheVariants.{Chainage, Position}
use Rattle.lrs_sheet_records.specs.Shapes.{Argument, Nothing, Number, Word, KindOf, SideOf, MethodOf, At, PiecesOf, MarksOf, ClassesOf, DestinationOf, PlaceOf, LinkSideOf, Gaps, destination_text, link_side_text}
use Rattle.lrs_sheet_records.specs.Verbs.{arguments_of, verb_of}

-- a chainage, or a method, a colon and a position by it
abbrev pub place_text : Place → Text
place_text (Chainage c) = decimal c
place_text (Position e) = line.method_text e ++ 58 ∷ expression_text e

-- the text of an argument, which is empty where there is nothing
abbrev pub argument_text : Argument → Text
argument_text Nothing = []
argument_text (Number n) = decimal n
argument_text (Word word) = word
argument_text (KindOf kind) = kind_text kind
argument_text (SideOf side) = side_text side
argument_text (MethodOf method) = method_text method
argument_text (At e) = expression_text e
argument_text (PiecesOf pieces) = pieces_text pieces
argument_text (MarksOf marks) = marks_text marks
argument_text (ClassesOf names) = words names
argument_text (DestinationOf to) = destination_text to
argument_text (PlaceOf place) = place_text place
argument_text (LinkSideOf side) = link_side_text side
argument_text Gaps = codes "gaps"

-- the verb and the texts of its arguments
abbrev pub command_fields : Command → List Text
command_fields command = verb_of command ∷ map argument_text (arguments_of command)

-- The line of a command, by the table.
abbrev pub line_by_table : Command → Text
line_by_table command = fields (command_fields command)

-- The record of a command under a key, by the table.
abbrev pub record_of : Text → Command → List Text
record_of key command = key ∷ command_fields command

-- a proportion is in lowest terms, as fractions are kept
abbrev pub IsInLowestTerms : Argument → Type 0
IsInLowestTerms (At (expression.Int p)) = IsLowest p
IsInLowestTerms _ = ⊤
