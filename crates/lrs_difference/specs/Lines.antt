-- The text of a line: its sign, the kind of its item, and the item, with a comma between fields. Pieces and marks stand as in commands.
use Rattle.std.specs.Prelude.{List, [], ◌∷◌, ◌++◌, codes}
use Rattle.std.specs.List.{flat_map}
use Rattle.std.specs.Fmt.{decimal}
use Rattle.lrs_events.specs.Names.{kind_text, side_text}
use Rattle.lrs_machine.specs.Lines.{Text, marks_text, pieces_text}
use Rattle.lrs_report_lists.specs.CoursePieces.{pieces_of}
use Rattle.lrs_report_lists.specs.Lines.{csv_line}
use Rattle.lrs_difference.specs.declared.line.AssetFacts.{AssetFacts}
use Rattle.lrs_difference.specs.declared.line.Item.{Item}
use Rattle.lrs_difference.specs.declared.line.Item.TheVariants.{Link, Class, Route, Referent, Asset, Holds}
use Rattle.lrs_difference.specs.declared.line.Line.{Line}
use Rattle.lrs_difference.specs.declared.line.Sign.{Sign}
use Rattle.lrs_difference.specs.declared.line.Sign.TheVariants.{Removed, Added}

abbrev pub sign_text : Sign → Text
sign_text Removed = codes "-"
sign_text Added = codes "+"

abbrev pub asset_fields : AssetFacts → List Text
asset_fields a = decimal a.number ∷ a.class ∷ a.value ∷ decimal a.lateral ∷ []

abbrev pub item_fields : Item → List Text
item_fields (Link number length) = codes "link" ∷ decimal number ∷ decimal length ∷ []
item_fields (Class name kind) = codes "class" ∷ name ∷ kind_text kind ∷ []
item_fields (Route name course marks) = codes "route" ∷ name ∷ pieces_text (pieces_of course) ∷ marks_text marks ∷ []
item_fields (Referent name link mm) = codes "ref" ∷ name ∷ decimal link ∷ decimal mm ∷ []
item_fields (Asset a) = codes "asset" ∷ asset_fields a
item_fields (Holds a link from to side) = codes "holds" ∷ asset_fields a ++ decimal link ∷ decimal from ∷ decimal to ∷ side_text side ∷ []

abbrev pub line_text : Line → Text
line_text l = csv_line (sign_text l.sign ∷ item_fields l.item)

abbrev pub lines_text : List Line → Text
lines_text lines = flat_map line_text lines
