-- Parts of the text of a list or of segments, as they are written one behind the other.
use Rattle.std.specs.Prelude.{ℕ, if◌then◌else◌, List, [], ◌∷◌, ◌++◌, codes}
use Rattle.std.specs.List.{flat_map}
use Rattle.serde_json.specs.Data.{Data, string}
use Rattle.serde_json.specs.Written.{compact_text}
use Rattle.lrs_measure.specs.Texts.{Name}
use Rattle.lrs_events.specs.declared.part.Gone.{Gone}
use Rattle.lrs_events.specs.declared.part.Part.{Part}
use Rattle.lrs_events.specs.declared.side.Side.{Side}
use Rattle.lrs_events.specs.Names.{side_text}
use Rattle.lrs_machine.specs.declared.image.Edit.{Edit}
use Rattle.lrs_machine.specs.declared.image.Image.{Image}
use Rattle.lrs_machine.specs.Lines.{Text}
use Rattle.lrs_machine.specs.declared.question.GoneWanted.{GoneWanted}
use Rattle.lrs_report_lists.specs.WantedRows.{is_gone_of, is_gone_wanted, is_part_of}
use Rattle.lrs_web_replies.specs.Listings.{entered_data, gone_data, left_data}

-- an object up to the value of its first member
abbrev pub front_text : Text → Text
front_text name = 123 ∷ (compact_text (string name) ++ 58 ∷ [])

-- an item of a list, with a comma before it
abbrev pub item_text : Data → Text
item_text d = 44 ∷ compact_text d

-- the name of a member behind others, up to its value
abbrev pub name_text : Text → Text
name_text name = item_text (string name) ++ 58 ∷ []

-- the items of a list with its opening bracket in the place of the first comma
abbrev pub opened_text : List Data → Text
opened_text [] = 91 ∷ []
opened_text (d ∷ ds) = 91 ∷ (compact_text d ++ flat_map item_text ds)

-- the segments of a route, up to their list
abbrev pub segments_front : Name → Text
segments_front route = front_text (codes "route") ++ (compact_text (string route) ++ name_text (codes "segments"))

-- what stands behind the list of the segments of a side
abbrev pub segments_end : Side → Text
segments_end side = name_text (codes "side") ++ (compact_text (string (side_text side)) ++ 125 ∷ [])

-- a part that is gone, where it is asked for
abbrev pub gone_part : GoneWanted → Image → Gone → Text
gone_part w i g = if is_gone_wanted w i.assets g then item_text (gone_data i g) else []

-- what became of a part, where the part is of the asset
abbrev pub entered_part : ℕ → List Edit → Part → Text
entered_part asset edits p = if is_part_of asset p then item_text (entered_data edits p) else []

abbrev pub left_part : ℕ → List Edit → Gone → Text
left_part asset edits g = if is_gone_of asset g then item_text (left_data edits g) else []
