-- The table of verbs: what the fields of each one say, and the arguments of a command of it.
use Rattle.std.specs.Prelude.{List, [], ◌∷◌, ◌++◌, Option, Some, None, codes, map, Contains, if◌then◌else◌}
use Rattle.std.specs.Str.{bytes_eq}
use Rattle.lrs_measure.specs.Limits.{longest_link, longest_route, greatest_link, greatest_asset, greatest_lateral}
use Rattle.lrs_position.specs.Expressions.{Ends}
use Rattle.lrs_position.specs.declared.expression.Expr.{Expr}
use Rattle.lrs_position.specs.declared.expression.Expr.TheVariants as expression
use Rattle.lrs_position.specs.declared.expression.Method.{Method}
use Rattle.lrs_position.specs.declared.expression.Method.TheVariants as method
use Rattle.lrs_machine.specs.Lines.{Text}
use Rattle.lrs_machine.specs.declared.answer.Field.TheVariants as field
use Rattle.lrs_machine.specs.declared.command.NewAsset.{NewAsset}
use Rattle.lrs_machine.specs.declared.command.Command.{Command}
use Rattle.lrs_machine.specs.declared.command.Command.TheVariants as command
use Rattle.lrs_sheet_records.specs.declared.verb.Verb.{Verb}
use Rattle.lrs_sheet_records.specs.declared.verb.Verb.TheVariants as verb
use Rattle.lrs_sheet_records.specs.Shapes.{Argument, Nothing, Number, Word, KindOf, SideOf, MethodOf, At, PiecesOf, MarksOf, Shape, Whole, ClassName, RouteName, ReferentName, AssetValue, ClassKind, RouteSide, MethodName, PositionBy, Pieces, Marks, OrNothing}

-- a row of a table: the name of a verb or of a question, and what its fields a, b, .. say
pub record Row : Type 0 where
  pub name : Text
  pub shapes : List Shape

-- a column of a survey: its name in the header, and what its field says
pub record Column : Type 0 where
  pub name : Text
  pub shape : Shape

-- an asset's number
abbrev pub asset_number : Shape
asset_number = Whole 1 greatest_asset

-- millimetres from a route's start
abbrev pub chainage : Shape
chainage = Whole 0 longest_route

-- What is entered: an asset of a class on a route and on a side, from where to where by a method, at a point without an end, and its value and its lateral offset.
abbrev pub new_asset_columns : List Column
new_asset_columns =
    record { name = codes "asset"; shape = asset_number }
    ∷ record { name = codes "class"; shape = ClassName }
    ∷ record { name = codes "route"; shape = RouteName }
    ∷ record { name = codes "side"; shape = RouteSide }
    ∷ record { name = codes "method"; shape = MethodName }
    ∷ record { name = codes "from"; shape = PositionBy field.E }
    ∷ record { name = codes "to"; shape = OrNothing (PositionBy field.E) }
    ∷ record { name = codes "value"; shape = AssetValue }
    ∷ record { name = codes "offset"; shape = Whole 0 greatest_lateral }
    ∷ []

abbrev pub new_asset_shapes : List Shape
new_asset_shapes = map (λ column. column.shape) new_asset_columns

-- The table of verbs: the row of each verb.
abbrev pub row_of : Verb → Row
row_of verb.Link = record { name = codes "link"; shapes = Whole 1 greatest_link ∷ Whole 1 longest_link ∷ [] }
row_of verb.Class = record { name = codes "class"; shapes = ClassName ∷ ClassKind ∷ [] }
row_of verb.Route = record { name = codes "route"; shapes = RouteName ∷ Pieces ∷ Marks ∷ [] }
row_of verb.Ref = record { name = codes "ref"; shapes = ReferentName ∷ RouteName ∷ MethodName ∷ PositionBy field.C ∷ [] }
row_of verb.Unref = record { name = codes "unref"; shapes = ReferentName ∷ [] }
row_of verb.Enter = record { name = codes "enter"; shapes = new_asset_shapes }
row_of verb.Retire = record { name = codes "retire"; shapes = asset_number ∷ RouteName ∷ MethodName ∷ PositionBy field.C ∷ OrNothing (PositionBy field.C) ∷ [] }
row_of verb.Split = record { name = codes "split"; shapes = RouteName ∷ chainage ∷ RouteName ∷ [] }
row_of verb.Join = record { name = codes "join"; shapes = RouteName ∷ RouteName ∷ [] }
row_of verb.Renumber = record { name = codes "renumber"; shapes = RouteName ∷ RouteName ∷ [] }
row_of verb.Recalibrate = record { name = codes "recalibrate"; shapes = RouteName ∷ Marks ∷ [] }
row_of verb.Realign = record { name = codes "realign"; shapes = RouteName ∷ chainage ∷ chainage ∷ OrNothing Pieces ∷ Marks ∷ [] }
row_of verb.Close = record { name = codes "close"; shapes = RouteName ∷ [] }
row_of verb.Supersede = record { name = codes "supersede"; shapes = new_asset_shapes }
row_of verb.Turn = record { name = codes "turn"; shapes = RouteName ∷ [] }

-- The verbs that there are.
abbrev pub every_verb : List Verb
every_verb = verb.Link ∷ verb.Class ∷ verb.Route ∷ verb.Ref ∷ verb.Unref ∷ verb.Enter ∷ verb.Retire ∷ verb.Split ∷ verb.Join ∷ verb.Renumber ∷ verb.Recalibrate ∷ verb.Realign ∷ verb.Close ∷ verb.Supersede ∷ verb.Turn ∷ []

abbrev pub verbs : List Row
verbs = map row_of every_verb

abbrev pub all_verbs : List Text
all_verbs = map (λ row. row.name) verbs

abbrev pub IsVerb : Text → Type 0
IsVerb name = Contains all_verbs name

-- the shapes of the fields under a name
abbrev pub shapes_in : List Row → Text → List Shape
shapes_in [] name = []
shapes_in (row ∷ others) name = if bytes_eq row.name name then row.shapes else shapes_in others name

abbrev pub shapes_of : Text → List Shape
shapes_of name = shapes_in verbs name

-- the verb of a command
abbrev pub verb_in : Command → Verb
verb_in (command.Link l) = verb.Link
verb_in (command.Class c) = verb.Class
verb_in (command.Route name pieces marks) = verb.Route
verb_in (command.Ref name route at) = verb.Ref
verb_in (command.Unref name) = verb.Unref
verb_in (command.Enter e) = verb.Enter
verb_in (command.Retire asset route location) = verb.Retire
verb_in (command.Split route at name) = verb.Split
verb_in (command.Join first second) = verb.Join
verb_in (command.Renumber route name) = verb.Renumber
verb_in (command.Recalibrate route marks) = verb.Recalibrate
verb_in (command.Realign route first end pieces marks) = verb.Realign
verb_in (command.Close route) = verb.Close
verb_in (command.Supersede e) = verb.Supersede
verb_in (command.Turn route) = verb.Turn

-- and its name
abbrev pub verb_of : Command → Text
verb_of command = (row_of (verb_in command)).name

-- the method of an expression
abbrev pub method_of : Expr → Method
method_of (expression.Abs m) = method.Abs
method_of (expression.Rel name t) = method.Rel
method_of (expression.Int p) = method.Int

-- what may be missing
abbrev pub or_nothing : {X : Type 0} → (X → Argument) → Option X → Argument
or_nothing argument None = Nothing
or_nothing argument (Some x) = argument x

-- the method, from and to
abbrev pub location_arguments : Ends → List Argument
location_arguments ends = MethodOf (method_of ends.from) ∷ At ends.from ∷ or_nothing At ends.to ∷ []

abbrev pub new_asset_arguments : NewAsset → List Argument
new_asset_arguments e = Number e.asset ∷ Word e.class ∷ Word e.route ∷ SideOf e.side ∷ location_arguments e.location ++ Word e.value ∷ Number e.offset ∷ []

-- the arguments of a command, in the order of the fields a, b, ..
abbrev pub arguments_of : Command → List Argument
arguments_of (command.Link l) = Number l.number ∷ Number l.length ∷ []
arguments_of (command.Class c) = Word c.name ∷ KindOf c.kind ∷ []
arguments_of (command.Route name pieces marks) = Word name ∷ PiecesOf pieces ∷ MarksOf marks ∷ []
arguments_of (command.Ref name route at) = Word name ∷ Word route ∷ MethodOf (method_of at) ∷ At at ∷ []
arguments_of (command.Unref name) = Word name ∷ []
arguments_of (command.Enter e) = new_asset_arguments e
arguments_of (command.Retire asset route location) = Number asset ∷ Word route ∷ location_arguments location
arguments_of (command.Split route at name) = Word route ∷ Number at ∷ Word name ∷ []
arguments_of (command.Join first second) = Word first ∷ Word second ∷ []
arguments_of (command.Renumber route name) = Word route ∷ Word name ∷ []
arguments_of (command.Recalibrate route marks) = Word route ∷ MarksOf marks ∷ []
arguments_of (command.Realign route first end pieces marks) = Word route ∷ Number first ∷ Number end ∷ or_nothing PiecesOf pieces ∷ MarksOf marks ∷ []
arguments_of (command.Close route) = Word route ∷ []
arguments_of (command.Supersede e) = new_asset_arguments e
arguments_of (command.Turn route) = Word route ∷ []
