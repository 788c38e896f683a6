-- The lists of an inventory: a header, and a line for each entry in the order in which the image keeps them; rows in that of the road.
use Rattle.std.specs.Prelude.{ℕ, Bool, List, [], ◌∷◌, ◌++◌, codes, filter, Option}
use Rattle.std.specs.List.{flat_map}
use Rattle.lrs_measure.specs.Texts.{Name}
use Rattle.lrs_events.specs.declared.class.Asset.{Asset}
use Rattle.lrs_machine.specs.declared.image.Image.{Image}
use Rattle.lrs_machine.specs.declared.image.RouteRow.{RouteRow}
use Rattle.lrs_machine.specs.Lines.{Text}
use Rattle.lrs_machine.specs.declared.question.GoneWanted.{GoneWanted}
use Rattle.lrs_machine.specs.declared.question.RowForm.{RowForm}
use Rattle.lrs_machine.specs.declared.question.RowForm.TheVariants.{Decimal, Exact, OnLinks}
use Rattle.lrs_machine.specs.declared.question.RowsWanted.{RowsWanted}
use Rattle.lrs_report_lists.specs.Lines.{class_line, csv_line, entered_line, gone_line, left_line, link_line, mark_line, piece_line, ref_line, route_line}
use Rattle.lrs_report_lists.specs.LinkRows.{link_rows_header, row_text}
use Rattle.lrs_report_lists.specs.PlacedPieces.{placed_pieces}
use Rattle.lrs_report_lists.specs.RoadOrder.{in_road_order}
use Rattle.lrs_report_lists.specs.WantedRows.{is_gone_of, is_gone_wanted, is_of_route, is_part_of, is_wanted}

-- every route
abbrev pub routes_text : Image → Text
routes_text i = csv_line (codes "route" ∷ codes "length" ∷ codes "from" ∷ codes "to" ∷ []) ++ flat_map (λ e. route_line e.route) i.routes

-- every link
abbrev pub links_text : Image → Text
links_text i = csv_line (codes "link" ∷ codes "length" ∷ []) ++ flat_map link_line i.links

-- every class
abbrev pub classes_text : Image → Text
classes_text i = csv_line (codes "class" ∷ codes "kind" ∷ []) ++ flat_map class_line i.classes

-- the routes of the name, where one is given
abbrev pub routes_named : Option Name → Image → List RouteRow
routes_named route i = filter (is_of_route route) i.routes

-- every referent of every route, or of one
abbrev pub refs_of : Bool → RouteRow → Text
refs_of exact e = flat_map (ref_line exact e.route) e.route.refs

abbrev pub refs_text : Option Name → Bool → Image → Text
refs_text route exact i = csv_line (codes "ref" ∷ codes "route" ∷ codes "chainage" ∷ codes "measure" ∷ []) ++ flat_map (refs_of exact) (routes_named route i)

-- every mark of every route, or of one
abbrev pub marks_of : RouteRow → Text
marks_of e = flat_map (mark_line e.route) e.route.marks

abbrev pub marks_text : Option Name → Image → Text
marks_text route i = csv_line (codes "route" ∷ codes "chainage" ∷ codes "measure" ∷ []) ++ flat_map marks_of (routes_named route i)

-- every piece of every route, or of one, in the order of the route
abbrev pub pieces_header : Text
pieces_header =
    csv_line (codes "route" ∷ codes "from" ∷ codes "to" ∷ codes "link" ∷ codes "link_from" ∷ codes "link_to" ∷ codes "direction" ∷ [])

abbrev pub pieces_on : RouteRow → Text
pieces_on e = flat_map (piece_line e.route.name) (placed_pieces e.route.course)

abbrev pub pieces_text : Option Name → Image → Text
pieces_text route i = pieces_header ++ flat_map pieces_on (routes_named route i)

-- every row that is asked for, of every route that is asked for, in the form that is asked for: by route, and then in the order of the road
abbrev pub route_rows_header : Text
route_rows_header =
    csv_line
    (codes "route"
    ∷ codes "from"
    ∷ codes "to"
    ∷ codes "from_measure"
    ∷ codes "to_measure"
    ∷ codes "side"
    ∷ codes "asset"
    ∷ codes "class"
    ∷ codes "value"
    ∷ codes "offset"
    ∷ codes "entry"
    ∷ [])

abbrev pub rows_header : RowForm → Text
rows_header Decimal = route_rows_header
rows_header Exact = route_rows_header
rows_header OnLinks = link_rows_header

abbrev pub rows_of : RowsWanted → List Asset → RouteRow → Text
rows_of w assets e = flat_map (row_text w.form assets e.route) (in_road_order (filter (is_wanted w) e.spans))

abbrev pub rows_text : RowsWanted → Image → Text
rows_text w i = rows_header w.form ++ flat_map (rows_of w i.assets) (filter (is_of_route w.route) i.routes)

-- every part that is gone and is asked for
abbrev pub gone_header : Text
gone_header =
    csv_line
    (codes "edit"
    ∷ codes "key"
    ∷ codes "verb"
    ∷ codes "reason"
    ∷ codes "asset"
    ∷ codes "class"
    ∷ codes "value"
    ∷ codes "link"
    ∷ codes "from"
    ∷ codes "to"
    ∷ codes "side"
    ∷ [])

abbrev pub gone_text : GoneWanted → Image → Text
gone_text wanted i = gone_header ++ flat_map (gone_line i) (filter (is_gone_wanted wanted i.assets) i.gone)

-- all that was entered of an asset, and then all that was retired or abandoned of it, each in the order of edits
abbrev pub history_header : Text
history_header =
    csv_line (codes "edit" ∷ codes "key" ∷ codes "verb" ∷ codes "event" ∷ codes "link" ∷ codes "from" ∷ codes "to" ∷ codes "side" ∷ [])

abbrev pub entered_of : ℕ → Image → Text
entered_of asset i = flat_map (entered_line i.edits) (filter (is_part_of asset) i.entered)

abbrev pub gone_of : ℕ → Image → Text
gone_of asset i = flat_map (left_line i.edits) (filter (is_gone_of asset) i.gone)

abbrev pub history_text : ℕ → Image → Text
history_text asset i = history_header ++ (entered_of asset i ++ gone_of asset i)
