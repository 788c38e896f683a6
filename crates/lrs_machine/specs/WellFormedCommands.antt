-- Well formed commands: what the types of their parts keep of names, numbers, lists and positions.
use Rattle.std.specs.Prelude.{Bool, true, IsTrue, ⊤, List, Option, Some, None}
use Rattle.lrs_element.specs.declared.link.Piece.{Piece}
use Rattle.lrs_position.specs.Names.{is_route_name, is_referent_name}
use Rattle.lrs_position.specs.declared.expression.Expr.{Expr}
use Rattle.lrs_position.specs.declared.expression.Expr.TheVariants.{Abs, Rel, Int}
use Rattle.lrs_position.specs.Expressions.{Ends, is_entered, are_alike}
use Rattle.lrs_events.specs.Names.{is_class_name, is_value}
use Rattle.lrs_machine.specs.declared.command.NewAsset.{NewAsset}
use Rattle.lrs_machine.specs.declared.command.Command.{Command}
use Rattle.lrs_machine.specs.declared.command.Command.TheVariants as verb
use Rattle.lrs_machine.specs.EnteredNumbers.{is_asset_number, is_chainage, is_lateral_offset, are_entered_pieces, are_entered_marks}

-- what a relative expression names can be a referent's name
abbrev pub names_referent : Expr → Bool
names_referent (Abs m) = true
names_referent (Rel name t) = is_referent_name name
names_referent (Int p) = true

-- an expression that can be entered
pub record IsPosition (e : Expr) : Type 0 where
  pub entered : IsTrue (is_entered e)
  pub referent : IsTrue (names_referent e)

-- an end, if there is one, is a position
abbrev pub IsEnd : Option Expr → Type 0
IsEnd None = ⊤
IsEnd (Some e) = IsPosition e

-- positions by one method
pub record IsLocation (ends : Ends) : Type 0 where
  pub first : IsPosition ends.from
  pub end : IsEnd ends.to
  pub alike : IsTrue (are_alike ends.from ends.to)

-- pieces, if there are any, are entered ones
abbrev pub ArePieces : Option (List Piece) → Type 0
ArePieces None = ⊤
ArePieces (Some pieces) = IsTrue (are_entered_pieces pieces)

-- what the types of an entry keep
pub record IsNewAsset (e : NewAsset) : Type 0 where
  pub asset : IsTrue (is_asset_number e.asset)
  pub class : IsTrue (is_class_name e.class)
  pub route : IsTrue (is_route_name e.route)
  pub location : IsLocation e.location
  pub value : IsTrue (is_value e.value)
  pub offset : IsTrue (is_lateral_offset e.offset)

-- A link keeps its limits itself.
abbrev pub IsWellFormed : Command → Type 0
IsWellFormed (verb.Link l) = ⊤
IsWellFormed (verb.Class c) = IsTrue (is_class_name c.name)
IsWellFormed (verb.Route name pieces marks) = IsTrue (is_route_name name) × IsTrue (are_entered_pieces pieces) × IsTrue (are_entered_marks marks)
IsWellFormed (verb.Ref name route at) = IsTrue (is_referent_name name) × IsTrue (is_route_name route) × IsPosition at
IsWellFormed (verb.Unref name) = IsTrue (is_referent_name name)
IsWellFormed (verb.Enter e) = IsNewAsset e
IsWellFormed (verb.Retire asset route location) = IsTrue (is_asset_number asset) × IsTrue (is_route_name route) × IsLocation location
IsWellFormed (verb.Split route at name) = IsTrue (is_route_name route) × IsTrue (is_chainage at) × IsTrue (is_route_name name)
IsWellFormed (verb.Join first second) = IsTrue (is_route_name first) × IsTrue (is_route_name second)
IsWellFormed (verb.Renumber route name) = IsTrue (is_route_name route) × IsTrue (is_route_name name)
IsWellFormed (verb.Recalibrate route marks) = IsTrue (is_route_name route) × IsTrue (are_entered_marks marks)
IsWellFormed (verb.Realign route first end pieces marks) = IsTrue (is_route_name route) × IsTrue (is_chainage first) × IsTrue (is_chainage end) × ArePieces pieces × IsTrue (are_entered_marks marks)
IsWellFormed (verb.Close route) = IsTrue (is_route_name route)
IsWellFormed (verb.Supersede e) = IsNewAsset e
IsWellFormed (verb.Turn route) = IsTrue (is_route_name route)
