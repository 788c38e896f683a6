-- Answers, and why commands are refused, as texts.
use Rattle.std.specs.Prelude.{◌++◌, codes}
use Rattle.std.specs.Fmt.{decimal}
use Rattle.lrs_machine.specs.Lines.{Text}
use Rattle.lrs_machine.specs.declared.answer.Field.{Field}
use Rattle.lrs_machine.specs.declared.answer.Field.TheVariants as field
use Rattle.lrs_machine.specs.declared.answer.What.{What}
use Rattle.lrs_machine.specs.declared.answer.What.TheVariants as what
use Rattle.lrs_machine.specs.declared.answer.Cause.{Cause}
use Rattle.lrs_machine.specs.declared.answer.Cause.TheVariants as cause
use Rattle.lrs_machine.specs.declared.answer.Answer.{Answer}
use Rattle.lrs_machine.specs.declared.answer.Answer.TheVariants.{Done, Again, Refused}

abbrev pub field_text : Field → Text
field_text field.Key = codes "key"
field_text field.Verb = codes "verb"
field_text field.A = codes "a"
field_text field.B = codes "b"
field_text field.C = codes "c"
field_text field.D = codes "d"
field_text field.E = codes "e"
field_text field.F = codes "f"
field_text field.G = codes "g"
field_text field.H = codes "h"
field_text field.I = codes "i"

abbrev pub what_text : What → Text
what_text what.Edits = codes "edits"
what_text what.Assets = codes "assets"
what_text what.Routes = codes "routes"

-- the name of a cause, and behind a colon its argument where it has one
abbrev pub cause_text : Cause → Text
cause_text (cause.Malformed field) = codes "Malformed:" ++ field_text field
cause_text (cause.KeyUsed edit) = codes "KeyUsed:" ++ decimal edit
cause_text (cause.TooMany what) = codes "TooMany:" ++ what_text what
cause_text cause.LinkKnown = codes "LinkKnown"
cause_text cause.NoLink = codes "NoLink"
cause_text cause.RouteKnown = codes "RouteKnown"
cause_text cause.NoRoute = codes "NoRoute"
cause_text cause.ClassKnown = codes "ClassKnown"
cause_text cause.NoClass = codes "NoClass"
cause_text cause.AssetKnown = codes "AssetKnown"
cause_text cause.NoAsset = codes "NoAsset"
cause_text cause.RefKnown = codes "RefKnown"
cause_text cause.NoRef = codes "NoRef"
cause_text (cause.BadPiece piece) = codes "BadPiece:" ++ decimal piece
cause_text (cause.Taken piece) = codes "Taken:" ++ decimal piece
cause_text cause.TooLong = codes "TooLong"
cause_text (cause.BadMarks mark) = codes "BadMarks:" ++ decimal mark
cause_text cause.OffRoute = codes "OffRoute"
cause_text cause.Empty = codes "Empty"
cause_text cause.WrongKind = codes "WrongKind"
cause_text (cause.Overlap asset) = codes "Overlap:" ++ decimal asset
cause_text cause.NoMark = codes "NoMark"
cause_text cause.SameRoute = codes "SameRoute"
cause_text cause.MeasureRange = codes "MeasureRange"
cause_text cause.NothingLeft = codes "NothingLeft"

abbrev pub answer_text : Answer → Text
answer_text (Done edit) = codes "done," ++ decimal edit
answer_text (Again edit) = codes "again," ++ decimal edit
answer_text (Refused cause) = codes "refused," ++ cause_text cause
