-- The canonical line of a command: its verb and fields joined by commas.
use Rattle.std.specs.Prelude.{ℕ, ℤ, pos, negsuc, suc, if◌then◌else◌, List, [], ◌∷◌, ◌++◌, map, codes, Option, Some, None, unsigned_abs}
use Rattle.std.specs.List.{join_with_byte}
use Rattle.std.specs.Fmt.{decimal}
use Rattle.lrs_element.specs.declared.link.Piece.{Piece}
use Rattle.lrs_element.specs.declared.marks.Mark.{Mark}
use Rattle.lrs_position.specs.declared.expression.Expr.{Expr}
use Rattle.lrs_position.specs.declared.expression.Expr.TheVariants.{Abs, Rel, Int}
use Rattle.lrs_position.specs.Expressions.{Ends}
use Rattle.lrs_events.specs.Names.{kind_text, side_text}
use Rattle.lrs_machine.specs.declared.command.NewAsset.{NewAsset}
use Rattle.lrs_machine.specs.declared.command.Command.{Command}
use Rattle.lrs_machine.specs.declared.command.Command.TheVariants as verb

abbrev pub Text : Type 0
Text = List ℕ

-- fields between commas, words between spaces, parts between colons
abbrev pub fields : List Text → Text
fields = join_with_byte 44

abbrev pub words : List Text → Text
words = join_with_byte 32

abbrev pub parts : List Text → Text
parts = join_with_byte 58

abbrev pub piece_text : Piece → Text
piece_text p = parts (decimal p.link ∷ decimal p.from ∷ decimal p.to ∷ (if p.forward then codes "+" else codes "-") ∷ [])

abbrev pub mark_text : Mark → Text
mark_text m = parts (decimal m.chainage ∷ decimal m.measure ∷ [])

abbrev pub pieces_text : List Piece → Text
pieces_text pieces = words (map piece_text pieces)

-- an empty field where there are no pieces
abbrev pub some_pieces_text : Option (List Piece) → Text
some_pieces_text None = []
some_pieces_text (Some pieces) = pieces_text pieces

abbrev pub marks_text : List Mark → Text
marks_text marks = words (map mark_text marks)

abbrev pub signed_text : ℤ → Text
signed_text (pos n) = codes "+" ++ decimal n
signed_text (negsuc n) = codes "-" ++ decimal (suc n)

-- the method of an expression
abbrev pub method_text : Expr → Text
method_text (Abs m) = codes "abs"
method_text (Rel name t) = codes "rel"
method_text (Int p) = codes "int"

-- an entered expression: a whole measure, a referent and a whole distance, or a proportion in lowest terms
abbrev pub expression_text : Expr → Text
expression_text (Abs m) = decimal (unsigned_abs m.num)
expression_text (Rel name t) = name ++ signed_text t.num
expression_text (Int p) = decimal (unsigned_abs p.num) ++ codes "/" ++ decimal p.den

-- an empty field at a point
abbrev pub end_text : Option Expr → Text
end_text None = []
end_text (Some e) = expression_text e

-- the method, and from and to
abbrev pub location_fields : Ends → List Text
location_fields ends = method_text ends.from ∷ expression_text ends.from ∷ end_text ends.to ∷ []

abbrev pub new_asset_fields : NewAsset → List Text
new_asset_fields e = decimal e.asset ∷ e.class ∷ e.route ∷ side_text e.side ∷ location_fields e.location ++ e.value ∷ decimal e.offset ∷ []

abbrev pub line_of : Command → Text
line_of (verb.Link l) = fields (codes "link" ∷ decimal l.number ∷ decimal l.length ∷ [])
line_of (verb.Class c) = fields (codes "class" ∷ c.name ∷ kind_text c.kind ∷ [])
line_of (verb.Route name pieces marks) = fields (codes "route" ∷ name ∷ pieces_text pieces ∷ marks_text marks ∷ [])
line_of (verb.Ref name route at) = fields (codes "ref" ∷ name ∷ route ∷ method_text at ∷ expression_text at ∷ [])
line_of (verb.Unref name) = fields (codes "unref" ∷ name ∷ [])
line_of (verb.Enter e) = fields (codes "enter" ∷ new_asset_fields e)
line_of (verb.Retire asset route location) = fields (codes "retire" ∷ decimal asset ∷ route ∷ location_fields location)
line_of (verb.Split route at name) = fields (codes "split" ∷ route ∷ decimal at ∷ name ∷ [])
line_of (verb.Join first second) = fields (codes "join" ∷ first ∷ second ∷ [])
line_of (verb.Renumber route name) = fields (codes "renumber" ∷ route ∷ name ∷ [])
line_of (verb.Recalibrate route marks) = fields (codes "recalibrate" ∷ route ∷ marks_text marks ∷ [])
line_of (verb.Realign route first end pieces marks) = fields (codes "realign" ∷ route ∷ decimal first ∷ decimal end ∷ some_pieces_text pieces ∷ marks_text marks ∷ [])
line_of (verb.Close route) = fields (codes "close" ∷ route ∷ [])
line_of (verb.Supersede e) = fields (codes "supersede" ∷ new_asset_fields e)
line_of (verb.Turn route) = fields (codes "turn" ∷ route ∷ [])
