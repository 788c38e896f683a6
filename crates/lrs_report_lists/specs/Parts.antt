-- Parts of lines, as they are written one behind the other.
use Rattle.std.specs.Prelude.{ℕ, Bool, ◌&&◌, if◌then◌else◌, List, [], ◌∷◌, ◌++◌, Option}
use Rattle.std.specs.Fmt.{decimal}
use Rattle.lrs_measure.specs.Texts.{Name}
use Rattle.lrs_element.specs.declared.link.Piece.{Piece}
use Rattle.lrs_position.specs.declared.route.Route.{Route}
use Rattle.lrs_events.specs.declared.class.Asset.{Asset}
use Rattle.lrs_events.specs.declared.part.Gone.{Gone}
use Rattle.lrs_events.specs.declared.part.Part.{Part}
use Rattle.lrs_events.specs.declared.span.Span.{Span}
use Rattle.lrs_events.specs.Names.{side_text}
use Rattle.lrs_machine.specs.Lines.{Text}
use Rattle.lrs_machine.specs.declared.image.Edit.{Edit}
use Rattle.lrs_machine.specs.declared.image.Image.{Image}
use Rattle.lrs_machine.specs.declared.question.GoneWanted.{GoneWanted}
use Rattle.lrs_report_lists.specs.Lines.{asset_numbered, direction_text, edit_numbered, entered_line, gone_line_with, key_text, left_line, link_side_text, reason_text, said_of, verb_text}
use Rattle.lrs_report_lists.specs.Measures.{measure_field}
use Rattle.lrs_report_lists.specs.WantedRows.{is_asset_of, is_edit_wanted, is_gone_of, is_part_of}

-- of a row: route, from and to
abbrev pub place_part : Name → Span → Text
place_part route r = route ++ 44 ∷ (decimal r.from ++ 44 ∷ (decimal r.to ++ 44 ∷ []))

-- the measures from and to
abbrev pub measures_part : Bool → Route → Span → Text
measures_part exact route r = measure_field exact route.marks r.from ++ 44 ∷ measure_field exact route.marks r.to

-- side, asset and class
abbrev pub holder_part : Span → Text
holder_part r = 44 ∷ (side_text r.side ++ 44 ∷ (decimal r.asset ++ 44 ∷ (r.class ++ 44 ∷ [])))

-- value, lateral offset and edit, and the end of the line
abbrev pub asset_part : Option Asset → Text
asset_part a = said_of (λ x. x.value) a ++ 44 ∷ (said_of (λ x. decimal x.lateral) a ++ 44 ∷ (said_of (λ x. decimal x.entered_by) a ++ 10 ∷ []))

-- of a piece: the route, from and to, and then the link, its millimetres, the direction, and the end of the line
abbrev pub chainages_part : Name → ℕ → ℕ → Text
chainages_part route at end = route ++ 44 ∷ (decimal at ++ 44 ∷ (decimal end ++ 44 ∷ []))

abbrev pub stretch_part : Piece → Text
stretch_part p = decimal p.link ++ 44 ∷ (decimal p.from ++ 44 ∷ (decimal p.to ++ 44 ∷ (direction_text p.forward ++ 10 ∷ [])))

-- of an edit: its key and verb, and its number before them
abbrev pub named_part : Option Edit → Text
named_part e = key_text e ++ 44 ∷ (verb_text e ++ 44 ∷ [])

abbrev pub edit_part : ℕ → Option Edit → Text
edit_part n e = (decimal n ++ 44 ∷ []) ++ named_part e

-- of a part that is gone: reason and asset
abbrev pub reason_part : Gone → Text
reason_part g = reason_text g.abandoned ++ 44 ∷ (decimal g.part.asset ++ 44 ∷ [])

-- class and value
abbrev pub class_part : Option Asset → Text
class_part a = said_of (λ x. x.class) a ++ 44 ∷ (said_of (λ x. x.value) a ++ 44 ∷ [])

-- link, from, to and side, and the end of the line
abbrev pub ground_part : Part → Text
ground_part p = decimal p.link ++ 44 ∷ (decimal p.from ++ 44 ∷ (decimal p.to ++ 44 ∷ (link_side_text p.side ++ 10 ∷ [])))

-- the line of a part of this edit and this asset where it is asked for, and that of a part of an image
abbrev pub gone_line_if : GoneWanted → Option Edit → Option Asset → Gone → Text
gone_line_if wanted e a g = if is_edit_wanted wanted g.part.edit && is_asset_of wanted.class a then gone_line_with e a g else []

abbrev pub gone_line_of : GoneWanted → Image → Gone → Text
gone_line_of wanted i g = gone_line_if wanted (edit_numbered i.edits g.part.edit) (asset_numbered i.assets g.part.asset) g

-- the lines of an asset's parts, and nothing for the others
abbrev pub entered_line_of : ℕ → List Edit → Part → Text
entered_line_of asset edits p = if is_part_of asset p then entered_line edits p else []

abbrev pub left_line_of : ℕ → List Edit → Gone → Text
left_line_of asset edits g = if is_gone_of asset g then left_line edits g else []
