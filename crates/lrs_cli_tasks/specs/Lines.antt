-- Answers as they are printed: words with a space between them, a line for each place, asset, row or class.
use Rattle.std.specs.Prelude.{ℕ, List, [], ◌∷◌, ◌++◌, map}
use Rattle.std.specs.List.{flat_map, join_with_byte}
use Rattle.std.specs.Fmt.{decimal}
use Rattle.lrs_measure.specs.Fraction.{Fraction}
use Rattle.lrs_measure.specs.FractionTexts.{fraction_text}
use Rattle.lrs_measure.specs.Texts.{Name}
use Rattle.lrs_position.specs.declared.expression.Expr.{Expr}
use Rattle.lrs_position.specs.Readings.{expression_text}
use Rattle.lrs_events.specs.Names.{side_text}
use Rattle.lrs_machine.specs.declared.total.Total.{Total}
use Rattle.lrs_machine.specs.declared.hit.Hit.{Hit}
use Rattle.lrs_machine.specs.declared.image.Image.{Image}
use Rattle.lrs_machine.specs.declared.question.Listing.{Listing}
use Rattle.lrs_machine.specs.declared.question.Listing.TheVariants as listing
use Rattle.lrs_machine.specs.Image.{state_of}
use Rattle.lrs_machine.specs.Lines.{Text, fields, method_text, words}
use Rattle.lrs_report_lists.specs.Length.Lines.{lengths_text}
use Rattle.lrs_report_lists.specs.Lists.{classes_text, gone_text, history_text, links_text, marks_text, pieces_text, refs_text, routes_text, rows_text}
use Rattle.lrs_sheet_log.specs.Log.{edits_text, edits_under, log_text}
use Rattle.lrs_sheet_log.specs.RouteSheets.{route_sheet}
use Rattle.lrs_sheet_records.specs.Words.{parts_of}
use Rattle.lrs_report.specs.Drawings.Strips.{strip_text}
use Rattle.lrs_report.specs.Drawings.Pictures.{diagram_text}
use Rattle.lrs_report_answers.specs.Answers.{direction_text}
use Rattle.lrs_report_answers.specs.Combinations.{combinations_text}
use Rattle.lrs_report_answers.specs.Overlay.{overlay_text}
use Rattle.lrs_report_answers.specs.declared.rows.FoundRow.{FoundRow}
use Rattle.lrs_report_answers.specs.declared.hits.AtAnswer.{AtAnswer}
use Rattle.lrs_report_answers.specs.declared.places.answer.Whereabouts.{Whereabouts}
use Rattle.lrs_report_answers.specs.declared.told.Told.{Told}
use Rattle.lrs_report_answers.specs.declared.told.Told.TheVariants as told

-- words with a space between them, and the end of the line
abbrev pub line_of : List Text → Text
line_of ws = words ws ++ 10 ∷ []

-- a route and a millimetre of it, the link and the millimetre of the link that it is, and how the route runs over it
abbrev pub place_text : Name → AtAnswer → Text
place_text route found =
    line_of (route ∷ decimal found.at ∷ decimal found.ground.link ∷ decimal found.ground.mm ∷ direction_text found.ground.forward ∷ [])

-- an asset, its class, the side on which it holds the millimetre, its lateral offset, its value, and the edit that entered it
abbrev pub hit_text : Hit → Text
hit_text h = line_of (decimal h.asset.number ∷ h.asset.class ∷ side_text h.side ∷ decimal h.asset.lateral ∷ h.asset.value ∷ decimal h.asset.entered_by ∷ [])

-- where a position stands, and who holds it
abbrev pub at_text : Name → AtAnswer → Text
at_text route found = place_text route found ++ flat_map hit_text found.hits

-- a route, where on it a row begins and ends, and its side
abbrev pub row_text : FoundRow → Text
row_text r = line_of (r.route ∷ decimal r.from ∷ decimal r.to ∷ side_text r.side ∷ [])

-- a line for each row
abbrev pub found_text : List FoundRow → Text
found_text = flat_map row_text

-- a class, and what of it was entered, retired and abandoned, and is present
abbrev pub total_text : Total → Text
total_text t = line_of (t.class ∷ decimal t.entered ∷ decimal t.retired ∷ decimal t.abandoned ∷ decimal t.present ∷ [])

-- a line for each class
abbrev pub totals_text : List Total → Text
totals_text = flat_map total_text

-- a position expression
abbrev pub expression_line : Expr → Text
expression_line e = expression_text e ++ 10 ∷ []

-- a link, and behind a colon the distance from its start
abbrev pub link_position_text : ℕ → Fraction → Text
link_position_text link distance = decimal link ++ 58 ∷ fraction_text distance ++ 10 ∷ []

-- a position: its method, a space, and the position as it is told by itself
abbrev pub position_line : Expr → Text
position_line e = method_text e ++ 32 ∷ expression_line e

-- the millimetre and who holds it, as it is told at a position; then a line for each position
abbrev pub whereabouts_text : Whereabouts → Text
whereabouts_text w = at_text w.route w.found ++ flat_map position_line w.positions

-- what is listed, with a header; of the log, an edit sheet
abbrev pub listing_text : Image → Listing → Text
listing_text i listing.Routes = routes_text i
listing_text i listing.Links = links_text i
listing_text i listing.Classes = classes_text i
listing_text i (listing.Refs route exact) = refs_text route exact i
listing_text i (listing.Marks route) = marks_text route i
listing_text i (listing.Pieces route) = pieces_text route i
listing_text i (listing.Gone wanted) = gone_text wanted i
listing_text i (listing.History asset) = history_text asset i
listing_text i (listing.Log from until) = log_text from until i
listing_text i (listing.LogOfKey key) = edits_text (edits_under key (state_of i).done)

-- What is told to a question, in lines; lists as CSV, a route as an edit sheet, and a diagram as a picture.
abbrev pub told_text : Told → Text
told_text (told.At route found) = at_text route found
told_text (told.Route route) = route_sheet route
told_text (told.Segments route side len classes segments) = strip_text route side len classes segments
told_text (told.Translated route e) = expression_line e
told_text (told.OnLink route link distance) = link_position_text link distance
told_text (told.Diagram d) = diagram_text d
told_text (told.Totals totals) = totals_text totals
told_text (told.Found rows) = found_text rows
told_text (told.Where w) = whereabouts_text w
told_text (told.Lengths lengths) = lengths_text lengths
told_text (told.Combinations classes combinations) = combinations_text classes combinations
told_text (told.Rows wanted inventory) = rows_text wanted inventory.now
told_text (told.Overlay wanted inventory) = overlay_text wanted inventory.now
told_text (told.Listing l inventory) = listing_text inventory.now l
told_text (told.Health edits) = decimal edits ++ 10 ∷ []

-- a cell as a formula that gives it as text, quoted as CSV quotes: `"=""CELL"""`; an empty cell stays empty
abbrev pub text_cell : Text → Text
text_cell [] = []
text_cell (byte ∷ rest) = 34 ∷ 61 ∷ 34 ∷ 34 ∷ byte ∷ rest ++ 34 ∷ 34 ∷ 34 ∷ []

-- a line, each cell of it so, between commas
abbrev pub text_line : Text → Text
text_line line = fields (map text_cell (parts_of 44 line))

-- a CSV text that has no quotes, each cell of each line so
abbrev pub text_cells : Text → Text
text_cells text = join_with_byte 10 (map text_line (parts_of 10 text))
