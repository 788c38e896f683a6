-- The lines of lists: fields with a comma between them, and the end of the line.
use Rattle.std.specs.Prelude.{ℕ, zero, suc, ◌+◌, ◌==◌, Bool, nat_eq, if◌then◌else◌, List, [], ◌∷◌, ◌++◌, length, codes, Option, None, slice_get}
use Rattle.std.specs.List.{before_first, find}
use Rattle.std.specs.Option.{option_map_or}
use Rattle.std.specs.Fmt.{decimal}
use Rattle.lrs_measure.specs.Texts.{Name}
use Rattle.lrs_element.specs.declared.link.Link.{Link}
use Rattle.lrs_element.specs.declared.link.Piece.{Piece}
use Rattle.lrs_element.specs.declared.marks.Mark.{Mark}
use Rattle.lrs_element.specs.Marks.{first_mark, last_mark}
use Rattle.lrs_element.specs.Pieces.{piece_len}
use Rattle.lrs_position.specs.declared.route.Referent.{Referent}
use Rattle.lrs_position.specs.declared.route.Route.{Route}
use Rattle.lrs_events.specs.declared.class.Asset.{Asset}
use Rattle.lrs_events.specs.declared.class.Class.{Class}
use Rattle.lrs_events.specs.declared.part.Gone.{Gone}
use Rattle.lrs_events.specs.declared.part.Part.{Part}
use Rattle.lrs_events.specs.declared.side.LinkSide.{LinkSide}
use Rattle.lrs_events.specs.declared.side.LinkSide.TheVariants.{Left, Right}
use Rattle.lrs_events.specs.declared.span.Span.{Span}
use Rattle.lrs_events.specs.Names.{kind_text, side_text}
use Rattle.lrs_machine.specs.declared.image.Edit.{Edit}
use Rattle.lrs_machine.specs.declared.image.Image.{Image}
use Rattle.lrs_machine.specs.Lines.{Text, fields}
use Rattle.lrs_report_lists.specs.Measures.{measure_field, measure_text}

abbrev pub csv_line : List Text → Text
csv_line fs = fields fs ++ 10 ∷ []

-- a route: its name, its length, and the measures at its start and at its end
abbrev pub route_line : Route → Text
route_line r = csv_line (r.name ∷ decimal (length r.course) ∷ decimal (first_mark r.marks).measure ∷ decimal (last_mark r.marks).measure ∷ [])

-- a link: its number and its length
abbrev pub link_line : Link → Text
link_line l = csv_line (decimal l.number ∷ decimal l.length ∷ [])

-- a class: its name and its kind
abbrev pub class_line : Class → Text
class_line c = csv_line (c.name ∷ kind_text c.kind ∷ [])

-- a referent: its name, its route, the chainage of its millimetre, and the measure there, exact or as a decimal
abbrev pub ref_line : Bool → Route → Referent → Text
ref_line exact route r = csv_line (r.name ∷ route.name ∷ decimal r.at ∷ measure_field exact route.marks r.at ∷ [])

-- a mark: its route, its chainage, and the measure there
abbrev pub mark_line : Route → Mark → Text
mark_line route m = csv_line (route.name ∷ decimal m.chainage ∷ decimal m.measure ∷ [])

-- a route runs along the link, or against it
abbrev pub direction_text : Bool → Text
direction_text forward = if forward then codes "+" else codes "-"

-- a piece that begins at a chainage of a route: the route, the chainages from and to, the link and its millimetres from and to, and the direction
abbrev pub piece_line : Name → ℕ × Piece → Text
piece_line route (at, p) = csv_line (route ∷ decimal at ∷ decimal (at + piece_len p) ∷ decimal p.link ∷ decimal p.from ∷ decimal p.to ∷ direction_text p.forward ∷ [])

-- the asset of a number
abbrev pub asset_numbered : List Asset → ℕ → Option Asset
asset_numbered assets n = find (λ a. nat_eq a.number n) assets

-- what a field says of an asset; it is empty where there is none
abbrev pub said_of : (Asset → Text) → Option Asset → Text
said_of text a = option_map_or text a []

-- a row of a route: the route, the chainages and measures from and to, the side, and the asset with its class, value, lateral offset and the edit that entered it; measures are exact or decimals
abbrev pub row_line_with : Bool → Option Asset → Route → Span → Text
row_line_with exact a route r =
    csv_line
    (route.name
    ∷ decimal r.from
    ∷ decimal r.to
    ∷ measure_field exact route.marks r.from
    ∷ measure_field exact route.marks r.to
    ∷ side_text r.side
    ∷ decimal r.asset
    ∷ r.class
    ∷ said_of (λ x. x.value) a
    ∷ said_of (λ x. decimal x.lateral) a
    ∷ said_of (λ x. decimal x.entered_by) a
    ∷ [])

abbrev pub reason_text : Bool → Text
reason_text abandoned = if abandoned then codes "abandoned" else codes "retired"

abbrev pub link_side_text : LinkSide → Text
link_side_text Left = codes "L"
link_side_text Right = codes "R"

-- the edit of a number: edits are numbered from 1
abbrev pub edit_numbered : List Edit → ℕ → Option Edit
edit_numbered edits zero = None
edit_numbered edits (suc passed) = slice_get edits passed

-- the verb of a canonical line: what stands before its first comma
abbrev pub verb_in : Text → Text
verb_in line = before_first (λ byte. byte == 44) line

-- the key of an edit, and its verb; they are empty where there is none
abbrev pub key_text : Option Edit → Text
key_text e = option_map_or (λ x. x.key) e []

abbrev pub verb_text : Option Edit → Text
verb_text e = option_map_or (λ x. verb_in x.line) e []

-- a part that is gone: the edit that took it away, with its key and verb, why, the asset with its class and value, and the link, the millimetres from and to, and the side of the link
abbrev pub gone_line_with : Option Edit → Option Asset → Gone → Text
gone_line_with e a g =
    csv_line
    (decimal g.part.edit
    ∷ key_text e
    ∷ verb_text e
    ∷ reason_text g.abandoned
    ∷ decimal g.part.asset
    ∷ said_of (λ x. x.class) a
    ∷ said_of (λ x. x.value) a
    ∷ decimal g.part.link
    ∷ decimal g.part.from
    ∷ decimal g.part.to
    ∷ link_side_text g.part.side
    ∷ [])

abbrev pub gone_line : Image → Gone → Text
gone_line i g = gone_line_with (edit_numbered i.edits g.part.edit) (asset_numbered i.assets g.part.asset) g

-- what became of a part of an asset: the edit, with its key and verb, the event, and the link, the millimetres from and to, and the side of the link
abbrev pub event_line_with : Option Edit → Text → Part → Text
event_line_with e event p =
    csv_line (decimal p.edit ∷ key_text e ∷ verb_text e ∷ event ∷ decimal p.link ∷ decimal p.from ∷ decimal p.to ∷ link_side_text p.side ∷ [])

abbrev pub event_line : List Edit → Text → Part → Text
event_line edits event p = event_line_with (edit_numbered edits p.edit) event p

-- a part was entered, or it was retired or abandoned
abbrev pub entered_line : List Edit → Part → Text
entered_line edits p = event_line edits (codes "entered") p

abbrev pub left_line : List Edit → Gone → Text
left_line edits g = event_line edits (reason_text g.abandoned) g.part
