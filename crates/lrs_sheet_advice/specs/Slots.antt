-- What each field of a record is for, and that this is what the table of verbs wants there.
use Rattle.std.specs.Prelude.{◌≡◌, ◌-◌, ◌≤◌, List, [], Option, Some, None, slice_get}
use Rattle.lrs_measure.specs.Limits.{longest_link, greatest_link, greatest_lateral}
use Rattle.lrs_machine.specs.declared.answer.Field.{Field}
use Rattle.lrs_sheet_records.specs.Records.{place_of}
use Rattle.lrs_sheet_records.specs.Shapes.{Shape, Whole, AssetValue, PositionBy, OrNothing}
use Rattle.lrs_sheet_records.specs.Shapes as shapes
use Rattle.lrs_sheet_records.specs.Verbs.{asset_number, chainage, row_of}
use Rattle.lrs_sheet_records.specs.declared.verb.Verb.{Verb}
use Rattle.lrs_sheet_advice.specs.declared.slot.Slot.{Slot}
use Rattle.lrs_sheet_advice.specs.declared.slot.Slot.TheVariants as slot

-- what a text in such a field may say; nothing in a field that the verb does not use
abbrev pub shape_of : Slot → Option Shape
shape_of slot.Key = None
shape_of slot.VerbName = None
shape_of slot.LinkNumber = Some (Whole 1 greatest_link)
shape_of slot.LinkLength = Some (Whole 1 longest_link)
shape_of slot.ClassName = Some shapes.ClassName
shape_of slot.ClassKind = Some shapes.ClassKind
shape_of slot.Route = Some shapes.RouteName
shape_of slot.NewName = Some shapes.RouteName
shape_of slot.SecondRoute = Some shapes.RouteName
shape_of slot.Pieces = Some shapes.Pieces
shape_of slot.SomePieces = Some (OrNothing shapes.Pieces)
shape_of slot.Marks = Some shapes.Marks
shape_of slot.Referent = Some shapes.ReferentName
shape_of slot.Asset = Some asset_number
shape_of slot.RouteSide = Some shapes.RouteSide
shape_of slot.MethodName = Some shapes.MethodName
shape_of (slot.At field) = Some (PositionBy field)
shape_of (slot.From field) = Some (PositionBy field)
shape_of (slot.To field) = Some (OrNothing (PositionBy field))
shape_of slot.Value = Some AssetValue
shape_of slot.Offset = Some (Whole 0 greatest_lateral)
shape_of slot.Chainage = Some chainage
shape_of slot.ChainageStart = Some chainage
shape_of slot.ChainageEnd = Some chainage
shape_of slot.Unused = None

-- the field that names the method by which a text of this shape is read
abbrev pub method_by : Shape → Option Field
method_by (PositionBy field) = Some field
method_by (OrNothing shape) = method_by shape
method_by other = None

-- the same of a field, where something is wanted in it
abbrev pub method_in : Option Shape → Option Field
method_in None = None
method_in (Some shape) = method_by shape

-- what the fields behind a verb say; there are none behind a verb that is not known
abbrev pub shapes_behind : Option Verb → List Shape
shapes_behind None = []
shapes_behind (Some verb) = (row_of verb).shapes

-- what the table of verbs wants in a field behind the verb is what the field is for
abbrev pub IsSlotOf : Option Verb → Field → Slot → Type 0
IsSlotOf verb field found = 2 ≤ place_of field → shape_of found ≡ slice_get (shapes_behind verb) (place_of field - 2)
