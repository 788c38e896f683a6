-- The lines of answers to the questions of a sheet: fields between commas, the key first. Before the lines of a list stands how many they are.
use Rattle.std.specs.Prelude.{ℕ, Option, List, [], ◌∷◌, ◌++◌, codes, length}
use Rattle.std.specs.List.{flat_map}
use Rattle.std.specs.Fmt.{decimal}
use Rattle.lrs_measure.specs.Fraction.{Fraction}
use Rattle.lrs_measure.specs.FractionTexts.{fraction_text}
use Rattle.lrs_measure.specs.Texts.{Name}
use Rattle.lrs_position.specs.Readings.{expression_text}
use Rattle.lrs_position.specs.declared.expression.Expr.{Expr}
use Rattle.lrs_events.specs.Names.{side_text}
use Rattle.lrs_events.specs.declared.side.Side.{Side}
use Rattle.lrs_machine.specs.Lines.{Text, fields, method_text}
use Rattle.lrs_machine.specs.declared.hit.Hit.{Hit}
use Rattle.lrs_machine.specs.declared.segment.Segment.{Segment}
use Rattle.lrs_machine.specs.declared.image.Image.{Image}
use Rattle.lrs_machine.specs.declared.question.Listing.{Listing}
use Rattle.lrs_machine.specs.declared.question.Listing.TheVariants.{History}
use Rattle.lrs_report.specs.Drawings.Strips.{value_text}
use Rattle.lrs_report_lists.specs.Length.Lines.{lengths_text}
use Rattle.lrs_report_lists.specs.Lists.{history_text, rows_text}
use Rattle.lrs_report_answers.specs.Answers.{direction_text}
use Rattle.lrs_report_answers.specs.Overlay.{overlay_text}
use Rattle.lrs_report_answers.specs.declared.hits.AtAnswer.{AtAnswer}
use Rattle.lrs_report_answers.specs.declared.places.answer.Whereabouts.{Whereabouts}
use Rattle.lrs_report_answers.specs.declared.rows.FoundRow.{FoundRow}
use Rattle.lrs_report_answers.specs.declared.told.Told.{Told}
use Rattle.lrs_report_answers.specs.declared.told.Told.TheVariants as told
use Rattle.lrs_sheet_questions.specs.Entries.{list_lines}

-- fields with a comma between them, and the end of the line
abbrev pub fields_line : List Text → Text
fields_line texts = fields texts ++ 10 ∷ []

-- a route and a millimetre of it, the link and the millimetre of the link that it is, how the route runs over it, and how many assets hold it
abbrev pub place_line : Text → Name → AtAnswer → Text
place_line key route found = fields_line (
    key ∷ codes "place" ∷ route ∷ decimal found.at ∷ decimal found.ground.link ∷ decimal found.ground.mm ∷ direction_text found.ground.forward
    ∷ decimal (length found.hits) ∷ []
    )

-- an asset, its class, the side on which it holds the millimetre, its lateral offset, its value, and the edit that entered it
abbrev pub hit_line : Text → Hit → Text
hit_line key h = fields_line (
    key ∷ codes "hit" ∷ decimal h.asset.number ∷ h.asset.class ∷ side_text h.side ∷ decimal h.asset.lateral ∷ h.asset.value ∷ decimal h.asset.entered_by
    ∷ []
    )

-- where a position stands, and who holds it
abbrev pub at_lines : Text → Name → AtAnswer → Text
at_lines key route found = place_line key route found ++ flat_map (hit_line key) found.hits

-- a route, a method or `link`, and the position
abbrev pub position_line : Text → Name → Text → Text → Text
position_line key route method position = fields_line (key ∷ codes "position" ∷ route ∷ method ∷ position ∷ [])

-- the same of a position as it is expressed
abbrev pub expression_line : Text → Name → Expr → Text
expression_line key route e = position_line key route (method_text e) (expression_text e)

-- what is at a place: the millimetre and who holds it, and then the place by every method
abbrev pub where_lines : Text → Whereabouts → Text
where_lines key w =
    at_lines key w.route w.found ++ fields_line (key ∷ codes "positions" ∷ decimal (length w.positions) ∷ []) ++ flat_map (expression_line key w.route) w.positions

-- a link, and behind a colon the distance from its start
abbrev pub link_position : ℕ → Fraction → Text
link_position link distance = decimal link ++ 58 ∷ fraction_text distance

-- a route, where on it a row begins and ends, and its side
abbrev pub row_line : Text → FoundRow → Text
row_line key r = fields_line (key ∷ codes "row" ∷ r.route ∷ decimal r.from ∷ decimal r.to ∷ side_text r.side ∷ [])

-- the rows of an asset
abbrev pub found_lines : Text → List FoundRow → Text
found_lines key rows = fields_line (key ∷ codes "found" ∷ decimal (length rows) ∷ []) ++ flat_map (row_line key) rows

-- a value behind a comma, or a dash where there is none
abbrev pub value_field : Option Name → Text
value_field value = 44 ∷ value_text value

-- where a segment begins and ends, and each value
abbrev pub segment_line : Text → Segment → Text
segment_line key s = fields (key ∷ codes "segment" ∷ decimal s.from ∷ decimal s.to ∷ []) ++ flat_map value_field s.values ++ 10 ∷ []

-- the segments of a side of a route
abbrev pub segments_lines : Text → Name → Side → List Segment → Text
segments_lines key route side segments =
    fields_line (key ∷ codes "segments" ∷ route ∷ side_text side ∷ decimal (length segments) ∷ []) ++ flat_map (segment_line key) segments

-- how many segments are told
abbrev pub segment_count : Told → ℕ
segment_count (told.Segments route side len classes segments) = length segments
segment_count _ = 0

-- of the lists of the inventory a sheet asks for a history
abbrev pub listing_lines : Text → Listing → Image → Text
listing_lines key (History asset) i = list_lines key (codes "history") (codes "event") (history_text asset i)
listing_lines key _ i = []

-- What is told to a question of a sheet, under its key; a sheet asks nothing that is told in another way.
abbrev pub told_lines : Text → Told → Text
told_lines key (told.At route found) = at_lines key route found
told_lines key (told.Translated route e) = expression_line key route e
told_lines key (told.OnLink route link distance) = position_line key route (codes "link") (link_position link distance)
told_lines key (told.Found rows) = found_lines key rows
told_lines key (told.Where w) = where_lines key w
told_lines key (told.Segments route side len classes segments) = segments_lines key route side segments
told_lines key (told.Rows wanted i) = list_lines key (codes "rows") (codes "row") (rows_text wanted i.now)
told_lines key (told.Overlay wanted i) = list_lines key (codes "overlay") (codes "segment") (overlay_text wanted i.now)
told_lines key (told.Lengths lengths) = list_lines key (codes "lengths") (codes "length") (lengths_text lengths)
told_lines key (told.Listing listing i) = listing_lines key listing i.now
told_lines key _ = []

-- why a question is refused
abbrev pub refused_line : Text → Text → Text
refused_line key cause = fields_line (key ∷ codes "refused" ∷ cause ∷ [])
