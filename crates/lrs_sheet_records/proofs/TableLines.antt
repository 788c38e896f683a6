-- The line of a command is made from the table of verbs.
use Rattle.std.proofs.Common.{◌≡◌, [], ◌∷◌, List, Option, Some, None, refl}
use Rattle.std.specs.Prelude.{codes, map}
use Rattle.std.specs.Fmt.{decimal}
use Rattle.lrs_element.specs.declared.link.Piece.{Piece}
use Rattle.lrs_position.specs.Readings as readings
use Rattle.lrs_position.specs.declared.expression.Expr.{Expr}
use Rattle.lrs_position.specs.declared.expression.Expr.TheVariants.{Abs, Rel, Int}
use Rattle.lrs_events.specs.Names.{side_text}
use Rattle.lrs_machine.specs.declared.command.NewAsset.{NewAsset}
use Rattle.lrs_machine.specs.declared.command.Command.TheVariants as verb
use Rattle.lrs_machine.specs.Lines.{Text, fields, method_text, expression_text, end_text, new_asset_fields, some_pieces_text, marks_text}
use Rattle.lrs_sheet_records.specs.CanonicalRecords.{argument_text}
use Rattle.lrs_sheet_records.specs.Laws.{LinesAreTheTables}
use Rattle.lrs_sheet_records.specs.Shapes.{At, PiecesOf}
use Rattle.lrs_sheet_records.specs.Verbs.{new_asset_arguments, method_of, or_nothing}

-- an expression's method has one text
method-line : (e : Expr) → method_text e ≡ readings.method_text (method_of e)
method-line (Abs m) = refl
method-line (Rel name t) = refl
method-line (Int p) = refl

-- so has an end
end-line : (end : Option Expr) → end_text end ≡ argument_text (or_nothing At end)
end-line None = refl
end-line (Some e) = refl

-- and pieces that may be missing
pieces-line : (pieces : Option (List Piece)) → some_pieces_text pieces ≡ argument_text (or_nothing PiecesOf pieces)
pieces-line None = refl
pieces-line (Some ps) = refl

-- the fields of an entry after a verb
entry-line : (name : Text) (e : NewAsset) → fields (name ∷ new_asset_fields e) ≡ fields (name ∷ map argument_text (new_asset_arguments e))
entry-line name e =
    let method = method-line e.location.from in
    let end = end-line e.location.to in
    λ i. fields (name ∷ decimal e.asset ∷ e.class ∷ e.route ∷ side_text e.side ∷ method i ∷ expression_text e.location.from ∷ end i ∷ e.value ∷ decimal e.offset ∷ [])

pub lines_are_the_tables : LinesAreTheTables
lines_are_the_tables (verb.Link l) = refl
lines_are_the_tables (verb.Class c) = refl
lines_are_the_tables (verb.Route name pieces marks) = refl
lines_are_the_tables (verb.Ref name route at) = let method = method-line at in λ i. fields (codes "ref" ∷ name ∷ route ∷ method i ∷ expression_text at ∷ [])
lines_are_the_tables (verb.Unref name) = refl
lines_are_the_tables (verb.Enter e) = entry-line (codes "enter") e
lines_are_the_tables (verb.Retire asset route location) =
    let method = method-line location.from in
    let end = end-line location.to in
    λ i. fields (codes "retire" ∷ decimal asset ∷ route ∷ method i ∷ expression_text location.from ∷ end i ∷ [])
lines_are_the_tables (verb.Split route at name) = refl
lines_are_the_tables (verb.Join first second) = refl
lines_are_the_tables (verb.Renumber route name) = refl
lines_are_the_tables (verb.Recalibrate route marks) = refl
lines_are_the_tables (verb.Realign route first end pieces marks) =
    let course = pieces-line pieces in
    λ i. fields (codes "realign" ∷ route ∷ decimal first ∷ decimal end ∷ course i ∷ marks_text marks ∷ [])
lines_are_the_tables (verb.Close route) = refl
lines_are_the_tables (verb.Supersede e) = entry-line (codes "supersede") e
lines_are_the_tables (verb.Turn route) = refl
