-- Lists as JSON and as CSV. As JSON each is the one member of an object, with the columns of the lists that are CSV as the members of each entry; the log is an edit sheet in either.

-- An object has its members in the order of their names, and a list its entries in the order in which the image keeps them; rows are in that of the road.
use Rattle.std.specs.Prelude.{ℕ, ◌+◌, List, [], ◌∷◌, ◌++◌, codes, filter, length, map, Option, Some, None}
use Rattle.std.specs.List.{flat_map}
use Rattle.std.specs.Option.{option_map_or}
use Rattle.serde_json.specs.Data.{Data, null, string}
use Rattle.lrs_measure.specs.Texts.{Name}
use Rattle.lrs_element.specs.declared.link.Link.{Link}
use Rattle.lrs_element.specs.declared.link.Piece.{Piece}
use Rattle.lrs_element.specs.declared.marks.Mark.{Mark}
use Rattle.lrs_element.specs.Pieces.{piece_len}
use Rattle.lrs_position.specs.declared.route.Referent.{Referent}
use Rattle.lrs_position.specs.declared.route.Route.{Route}
use Rattle.lrs_events.specs.declared.class.Asset.{Asset}
use Rattle.lrs_events.specs.declared.class.Class.{Class}
use Rattle.lrs_events.specs.declared.part.Gone.{Gone}
use Rattle.lrs_events.specs.declared.part.Part.{Part}
use Rattle.lrs_events.specs.declared.span.Span.{Span}
use Rattle.lrs_events.specs.Names.{kind_text, side_text}
use Rattle.lrs_machine.specs.declared.image.Edit.{Edit}
use Rattle.lrs_machine.specs.declared.image.Image.{Image}
use Rattle.lrs_machine.specs.declared.image.RouteRow.{RouteRow}
use Rattle.lrs_machine.specs.Image.{state_of}
use Rattle.lrs_machine.specs.Lines.{Text}
use Rattle.lrs_machine.specs.declared.question.GoneWanted.{GoneWanted}
use Rattle.lrs_machine.specs.declared.question.Listing.{Listing}
use Rattle.lrs_machine.specs.declared.question.Listing.TheVariants as listing
use Rattle.lrs_machine.specs.declared.question.RowForm.{RowForm}
use Rattle.lrs_machine.specs.declared.question.RowForm.TheVariants as form
use Rattle.lrs_machine.specs.declared.question.RowsWanted.{RowsWanted}
use Rattle.lrs_report_lists.specs.Lines.{asset_numbered, direction_text, edit_numbered, link_side_text, reason_text, verb_in}
use Rattle.lrs_report_lists.specs.LinkRows.{on_piece}
use Rattle.lrs_report_lists.specs.Lists.{classes_text, gone_text, history_text, links_text, marks_text, pieces_text, refs_text, routes_named, routes_text, rows_text}
use Rattle.lrs_report_lists.specs.Measures.{decimal_measure_text, measure_text}
use Rattle.lrs_report_lists.specs.PlacedPieces.{placed_pieces}
use Rattle.lrs_report_lists.specs.RoadOrder.{in_road_order}
use Rattle.lrs_report_lists.specs.WantedRows.{is_gone_of, is_gone_wanted, is_part_of, is_wanted}
use Rattle.lrs_report_lists.specs.declared.link_rows.LinkStretch.{LinkStretch}
use Rattle.lrs_sheet_log.specs.Log.{edits_text, edits_under, log_text}
use Rattle.lrs_web_requests.specs.Text.{Answer}
use Rattle.lrs_web_requests.specs.declared.paths.Format.{Format}
use Rattle.lrs_web_requests.specs.declared.paths.Format.TheVariants.{Json, Csv}
use Rattle.lrs_web_replies.specs.JsonParts.{list, whole, with}
use Rattle.lrs_web_replies.specs.Pages.{paged}
use Rattle.lrs_web_replies.specs.Replies.{csv_answer, json_answer}
use Rattle.lrs_web_replies.specs.declared.pages.Page.{Page}

-- a list under its name
abbrev pub named_list : Text → List Data → Data
named_list name items = with ((name, list items) ∷ [])

-- ---- routes, links, classes, referents, marks and pieces

-- a route: how long it is in millimetres, and its name
abbrev pub route_length_data : RouteRow → Data
route_length_data e = with ((codes "length", whole (length e.route.course)) ∷ (codes "name", string e.route.name) ∷ [])

-- a link: its length and its number
abbrev pub link_data : Link → Data
link_data l = with ((codes "length", whole l.length) ∷ (codes "link", whole l.number) ∷ [])

-- a class: its name and its kind
abbrev pub class_data : Class → Data
class_data c = with ((codes "class", string c.name) ∷ (codes "kind", string (kind_text c.kind)) ∷ [])

-- a referent: the chainage of its millimetre, the measure there, exact and as a decimal, its name and its route
abbrev pub ref_data : Route → Referent → Data
ref_data route r = with (
    (codes "chainage", whole r.at) ∷ (codes "measure", string (measure_text route.marks r.at))
    ∷ (codes "measure_decimal", string (decimal_measure_text route.marks r.at)) ∷ (codes "ref", string r.name) ∷ (codes "route", string route.name) ∷ []
    )

-- a mark: its chainage, the measure there, and its route
abbrev pub mark_data : Route → Mark → Data
mark_data route m = with ((codes "chainage", whole m.chainage) ∷ (codes "measure", whole m.measure) ∷ (codes "route", string route.name) ∷ [])

-- a piece that begins at a chainage of a route: whether the route runs along the link or against it, the chainages from and to, the link with its millimetres from and to, and the route
abbrev pub piece_data : Route → ℕ × Piece → Data
piece_data route (at, p) = with (
    (codes "direction", string (direction_text p.forward)) ∷ (codes "from", whole at) ∷ (codes "link", whole p.link) ∷ (codes "link_from", whole p.from)
    ∷ (codes "link_to", whole p.to) ∷ (codes "route", string route.name) ∷ (codes "to", whole (at + piece_len p)) ∷ []
    )

-- ---- rows

-- what is said of an asset or of an edit, or null where there is none; a sound image has an asset for each row and each part, and an edit for each part
abbrev pub said_of : {A : Type 0} → (A → Data) → Option A → Data
said_of shown None = null
said_of shown (Some a) = shown a

-- a row of a route: the asset with its class, the edit that entered it, the chainages and measures from and to, exact and as decimals, the lateral offset, the route, the side, and the value
abbrev pub row_data_with : Option Asset → Route → Span → Data
row_data_with a route r = with (
    (codes "asset", whole r.asset) ∷ (codes "class", string r.class) ∷ (codes "entry", said_of (λ x. whole x.entered_by) a)
    ∷ (codes "from", whole r.from) ∷ (codes "from_measure", string (measure_text route.marks r.from))
    ∷ (codes "from_measure_decimal", string (decimal_measure_text route.marks r.from)) ∷ (codes "offset", said_of (λ x. whole x.lateral) a) ∷ (codes "route", string route.name)
    ∷ (codes "side", string (side_text r.side)) ∷ (codes "to", whole r.to) ∷ (codes "to_measure", string (measure_text route.marks r.to))
    ∷ (codes "to_measure_decimal", string (decimal_measure_text route.marks r.to)) ∷ (codes "value", said_of (λ x. string x.value) a) ∷ []
    )

-- what a row holds of a link: the asset with its class, the link with the millimetres from and to, the lateral offset, the route, the side seen along the link, and the value
abbrev pub link_row_data : Option Asset → Route → Span → LinkStretch → Data
link_row_data a route r s = with (
    (codes "asset", whole r.asset) ∷ (codes "class", string r.class) ∷ (codes "from", whole s.from) ∷ (codes "link", whole s.link)
    ∷ (codes "offset", said_of (λ x. whole x.lateral) a) ∷ (codes "route", string route.name) ∷ (codes "side", string (side_text s.side))
    ∷ (codes "to", whole s.to) ∷ (codes "value", said_of (λ x. string x.value) a) ∷ []
    )

-- what a row has of a piece that begins at a chainage, where it has a millimetre of it
abbrev pub link_row_items : Option Asset → Route → Span → ℕ × Piece → List Data
link_row_items a route r (start, p) = option_map_or (λ s. link_row_data a route r s ∷ []) (on_piece r start p) []

-- a row in a form: on its route, with the measures in either way, or on the links under it, in the order of the route
abbrev pub row_items_with : RowForm → Option Asset → Route → Span → List Data
row_items_with form.Decimal a route r = row_data_with a route r ∷ []
row_items_with form.Exact a route r = row_data_with a route r ∷ []
row_items_with form.OnLinks a route r = flat_map (link_row_items a route r) (placed_pieces route.course)

abbrev pub row_items : RowForm → List Asset → Route → Span → List Data
row_items told assets route r = row_items_with told (asset_numbered assets r.asset) route r

-- the rows of a route that are asked for, in the order of the road
abbrev pub rows_of : RowsWanted → List Asset → RouteRow → List Data
rows_of w assets e = flat_map (row_items w.form assets e.route) (in_road_order (filter (is_wanted w) e.spans))

-- ---- what is gone

-- the key of an edit, and its verb
abbrev pub key_data : Option Edit → Data
key_data e = said_of (λ x. string x.key) e

abbrev pub verb_data : Option Edit → Data
verb_data e = said_of (λ x. string (verb_in x.line)) e

-- a part that is gone: the asset with its class, the edit that took it away, the link with the millimetres from and to, the key of the edit, why, the side of the link, the value, and the verb of the edit
abbrev pub gone_data_with : Option Edit → Option Asset → Gone → Data
gone_data_with e a g = with (
    (codes "asset", whole g.part.asset) ∷ (codes "class", said_of (λ x. string x.class) a) ∷ (codes "edit", whole g.part.edit)
    ∷ (codes "from", whole g.part.from) ∷ (codes "key", key_data e) ∷ (codes "link", whole g.part.link) ∷ (codes "reason", string (reason_text g.abandoned))
    ∷ (codes "side", string (link_side_text g.part.side)) ∷ (codes "to", whole g.part.to) ∷ (codes "value", said_of (λ x. string x.value) a)
    ∷ (codes "verb", verb_data e) ∷ []
    )

abbrev pub gone_data : Image → Gone → Data
gone_data i g = gone_data_with (edit_numbered i.edits g.part.edit) (asset_numbered i.assets g.part.asset) g

-- ---- the history of an asset

-- what became of a part: the edit, what it was, the link with the millimetres from and to, the key of the edit, the side of the link, and the verb of the edit
abbrev pub event_data_with : Option Edit → Text → Part → Data
event_data_with e event p = with (
    (codes "edit", whole p.edit) ∷ (codes "event", string event) ∷ (codes "from", whole p.from) ∷ (codes "key", key_data e) ∷ (codes "link", whole p.link)
    ∷ (codes "side", string (link_side_text p.side)) ∷ (codes "to", whole p.to) ∷ (codes "verb", verb_data e) ∷ []
    )

-- a part was entered, or it was retired or abandoned
abbrev pub entered_data : List Edit → Part → Data
entered_data edits p = event_data_with (edit_numbered edits p.edit) (codes "entered") p

abbrev pub left_data : List Edit → Gone → Data
left_data edits g = event_data_with (edit_numbered edits g.part.edit) (reason_text g.abandoned) g.part

-- ---- lists

-- a page of every route
abbrev pub routes_data : Page → Image → Data
routes_data page i = named_list (codes "routes") (paged page (map route_length_data i.routes))

-- of every link
abbrev pub links_data : Page → Image → Data
links_data page i = named_list (codes "links") (paged page (map link_data i.links))

-- of every class
abbrev pub classes_data : Page → Image → Data
classes_data page i = named_list (codes "classes") (paged page (map class_data i.classes))

-- of every referent of a route, of every route or of one
abbrev pub refs_on : Route → List Data
refs_on route = map (ref_data route) route.refs

abbrev pub refs_data : Page → Option Name → Image → Data
refs_data page route i = named_list (codes "refs") (paged page (flat_map (λ e. refs_on e.route) (routes_named route i)))

-- of every mark
abbrev pub marks_on : Route → List Data
marks_on route = map (mark_data route) route.marks

abbrev pub marks_data : Page → Option Name → Image → Data
marks_data page route i = named_list (codes "marks") (paged page (flat_map (λ e. marks_on e.route) (routes_named route i)))

-- of every piece, in the order of the route
abbrev pub pieces_on : Route → List Data
pieces_on route = map (piece_data route) (placed_pieces route.course)

abbrev pub pieces_data : Page → Option Name → Image → Data
pieces_data page route i = named_list (codes "pieces") (paged page (flat_map (λ e. pieces_on e.route) (routes_named route i)))

-- of every row that is asked for, of every route that is asked for
abbrev pub rows_data : Page → RowsWanted → Image → Data
rows_data page w i = named_list (codes "rows") (paged page (flat_map (rows_of w i.assets) (routes_named w.route i)))

-- every part that is gone and is asked for
abbrev pub all_gone_data : GoneWanted → Image → Data
all_gone_data w i = named_list (codes "gone") (map (gone_data i) (filter (is_gone_wanted w i.assets) i.gone))

-- all that was entered of an asset, and then all that was retired or abandoned of it
abbrev pub history_items : ℕ → Image → List Data
history_items asset i = map (entered_data i.edits) (filter (is_part_of asset) i.entered) ++ map (left_data i.edits) (filter (is_gone_of asset) i.gone)

abbrev pub history_data : ℕ → Image → Data
history_data asset i = named_list (codes "history") (history_items asset i)

-- the lines of a list, as the command line prints them; of the log, an edit sheet
abbrev pub listing_text : Image → Listing → Text
listing_text i listing.Routes = routes_text i
listing_text i listing.Links = links_text i
listing_text i listing.Classes = classes_text i
listing_text i (listing.Refs route exact) = refs_text route exact i
listing_text i (listing.Marks route) = marks_text route i
listing_text i (listing.Pieces route) = pieces_text route i
listing_text i (listing.Gone wanted) = gone_text wanted i
listing_text i (listing.History asset) = history_text asset i
listing_text i (listing.Log from until) = log_text from until i
listing_text i (listing.LogOfKey key) = edits_text (edits_under key (state_of i).done)

-- the reply in a format: with this, as JSON, or with these lines
abbrev pub in_format : Format → Data → Text → Answer
in_format Json d lines = json_answer 200 d
in_format Csv d lines = csv_answer lines

-- The table: the reply with each list in a format; as JSON, with a page of it. The log is CSV in either.
abbrev pub listing_answer : Format → Page → Image → Listing → Answer
listing_answer format page i listing.Routes = in_format format (routes_data page i) (routes_text i)
listing_answer format page i listing.Links = in_format format (links_data page i) (links_text i)
listing_answer format page i listing.Classes = in_format format (classes_data page i) (classes_text i)
listing_answer format page i (listing.Refs route exact) = in_format format (refs_data page route i) (refs_text route exact i)
listing_answer format page i (listing.Marks route) = in_format format (marks_data page route i) (marks_text route i)
listing_answer format page i (listing.Pieces route) = in_format format (pieces_data page route i) (pieces_text route i)
listing_answer format page i (listing.Gone wanted) = in_format format (all_gone_data wanted i) (gone_text wanted i)
listing_answer format page i (listing.History asset) = in_format format (history_data asset i) (history_text asset i)
listing_answer format page i (listing.Log from until) = csv_answer (log_text from until i)
listing_answer format page i (listing.LogOfKey key) = csv_answer (edits_text (edits_under key (state_of i).done))

-- the rows that are asked for, in a format
abbrev pub rows_answer : Format → Page → Image → RowsWanted → Answer
rows_answer format page i w = in_format format (rows_data page w i) (rows_text w i)
