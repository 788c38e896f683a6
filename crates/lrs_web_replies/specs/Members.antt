-- The members of objects, as tables of names and what they hold.
use Rattle.std.specs.Prelude.{◌∷◌, ◌++◌, []}
use Rattle.std.specs.Fmt.{decimal}
use Rattle.std.specs.Option.{option_map_or}
use Rattle.serde_json.specs.Data.{Data, Members, null, put, string}
use Rattle.lrs_measure.specs.FractionTexts.{fraction_text, metres_text}
use Rattle.lrs_position.specs.Readings.{expression_text}
use Rattle.lrs_events.specs.Names.{kind_text, side_text}
use Rattle.lrs_web_replies.specs.JsonParts.{whole}
use Rattle.lrs_web_replies.specs.declared.members.Member.{Member}
use Rattle.lrs_web_replies.specs.declared.members.Scalar.{Scalar}
use Rattle.lrs_web_replies.specs.declared.members.Scalar.TheVariants as scalar

-- what a member holds
abbrev pub scalar_data : Scalar → Data
scalar_data scalar.Null = null
scalar_data (scalar.Whole number) = whole number
scalar_data (scalar.Word word) = string word.now
scalar_data (scalar.Route name) = string name
scalar_data (scalar.Referent name) = string name
scalar_data (scalar.Class name) = string name
scalar_data (scalar.Kind kind) = string (kind_text kind)
scalar_data (scalar.Held value) = string value
scalar_data (scalar.Side side) = string (side_text side)
scalar_data (scalar.Position position) = string (expression_text position)
scalar_data (scalar.OnLink link distance) = string (decimal link ++ 58 ∷ fraction_text distance)
scalar_data (scalar.Measure measure) = string (option_map_or fraction_text measure [])
scalar_data (scalar.Thousandths count) = string (option_map_or metres_text count [])
scalar_data (scalar.Key key) = string key

-- the members with one more, which stands where its name belongs
abbrev pub with_member : Members → Member → Members
with_member ms m = put m.0.now (scalar_data m.1) ms
