-- What is written of a change: inserted rows, removed rows, and rows of a route that gets another name.
use Rattle.std.specs.Prelude.{ℕ, ℤ, pos, negsuc, Bool, false, not, ◌&&◌, nat_eq, List, [], ◌∷◌, ◌++◌, map, filter, if◌then◌else◌}
use Rattle.std.specs.List.{list_any}
use Rattle.lrs_measure.specs.Texts.{Name, same_name}
use Rattle.lrs_element.specs.declared.link.Link.{Link}
use Rattle.lrs_element.specs.declared.link.Piece.{Piece}
use Rattle.lrs_element.specs.declared.marks.Mark.{Mark}
use Rattle.lrs_position.specs.declared.route.Referent.{Referent}
use Rattle.lrs_events.specs.declared.class.Class.{Class}
use Rattle.lrs_events.specs.declared.class.Asset.{Asset}
use Rattle.lrs_events.specs.declared.span.Span.{Span}
use Rattle.lrs_events.specs.declared.part.Part.{Part}
use Rattle.lrs_events.specs.declared.part.Gone.{Gone}
use Rattle.lrs_machine.specs.declared.image.Edit.{Edit}
use Rattle.lrs_image.specs.declared.change.RouteKeys.{RouteKeys}
use Rattle.lrs_store_tables.specs.Contents.Tables.{Tables, PieceRow, MarkRow, RefRow, SpanRow}
use Rattle.lrs_store_tables.specs.Contents.Laws.{origin_row}
use Rattle.lrs_store_tables.specs.Contents.Encoders.{link_row, class_row, asset_row, piece_row, mark_row, ref_row, span_row, entered_row, gone_row, edit_row, numbered}

-- inserted rows

abbrev pub with_version : ℕ → Tables → Tables
with_version v t = record t { version = pos v ∷ t.version }

abbrev pub with_link : Link → Tables → Tables
with_link l t = record t { link = link_row l ∷ t.link }

abbrev pub with_class : Class → Tables → Tables
with_class c t = record t { class = class_row c ∷ t.class }

abbrev pub with_asset_row : Asset → Tables → Tables
with_asset_row a t = record t { asset = asset_row a ∷ t.asset }

abbrev pub with_origin : Asset → Tables → Tables
with_origin a t = record t { origin = origin_row a ∷ t.origin }

-- the edits that entered these assets
abbrev pub with_origins : List Asset → Tables → Tables
with_origins as_ t = record t { origin = map origin_row as_ ++ t.origin }

-- an asset, and the edit that entered it
abbrev pub with_asset : Asset → Tables → Tables
with_asset a t = with_origin a (with_asset_row a t)

-- pieces of a route, of which the first has the number n
abbrev pub with_pieces : Name → ℕ → List Piece → Tables → Tables
with_pieces route n ps t = record t { piece = numbered (piece_row route) n ps ++ t.piece }

abbrev pub with_marks : Name → ℕ → List Mark → Tables → Tables
with_marks route n ms t = record t { mark = numbered (mark_row route) n ms ++ t.mark }

abbrev pub with_refs : Name → List Referent → Tables → Tables
with_refs route rs t = record t { ref = map (ref_row route) rs ++ t.ref }

abbrev pub with_spans : Name → List Span → Tables → Tables
with_spans route ss t = record t { span = map (span_row route) ss ++ t.span }

abbrev pub with_entered : List Part → Tables → Tables
with_entered ps t = record t { entered = map entered_row ps ++ t.entered }

abbrev pub with_gone : List Gone → Tables → Tables
with_gone gs t = record t { gone = map gone_row gs ++ t.gone }

-- the edit of a number
abbrev pub with_edit : ℕ → Edit → Tables → Tables
with_edit n e t = record t { edit = edit_row n e ∷ t.edit }

-- removed rows

-- the row of the version
abbrev pub without_version : Tables → Tables
without_version t = record t { version = [] }

-- the rows that tell which edit entered an asset
abbrev pub without_origins : Tables → Tables
without_origins t = record t { origin = [] }

-- the rows of a route
abbrev pub without_pieces : Name → Tables → Tables
without_pieces route t = record t { piece = filter (λ r. not (same_name r.route route)) t.piece }

abbrev pub without_marks : Name → Tables → Tables
without_marks route t = record t { mark = filter (λ r. not (same_name r.route route)) t.mark }

abbrev pub is_number : ℕ → ℤ → Bool
is_number n (pos m) = nat_eq m n
is_number n (negsuc m) = false

-- the row has the key of this span: its asset, route and start
abbrev pub has_key_of : Name → Span → SpanRow → Bool
has_key_of route s r = is_number s.asset r.asset && same_name r.route route && is_number s.from r.lo

-- the rows of some spans of a route, by their keys
abbrev pub less_spans : Name → List Span → Tables → Tables
less_spans route ss t = record t { span = filter (λ r. not (list_any (λ s. has_key_of route s r) ss)) t.span }

-- the rows of some referents, by their names
abbrev pub less_refs : List Name → Tables → Tables
less_refs names t = record t { ref = filter (λ r. not (list_any (same_name r.name) names)) t.ref }

-- a route with what lies on it: its referents and spans go by their keys
abbrev pub without_route : Name → RouteKeys → Tables → Tables
without_route route keys t = less_spans route keys.spans (less_refs keys.refs (without_marks route (without_pieces route t)))

-- rows of a route that gets another name

abbrev pub renamed_piece : Name → Name → PieceRow → PieceRow
renamed_piece old new r = if same_name r.route old then record r { route = new } else r

abbrev pub renamed_pieces : Name → Name → Tables → Tables
renamed_pieces old new t = record t { piece = map (renamed_piece old new) t.piece }

abbrev pub renamed_mark : Name → Name → MarkRow → MarkRow
renamed_mark old new r = if same_name r.route old then record r { route = new } else r

abbrev pub renamed_marks : Name → Name → Tables → Tables
renamed_marks old new t = record t { mark = map (renamed_mark old new) t.mark }

-- the row is of this referent, on this route
abbrev pub is_ref_of : Name → Name → RefRow → Bool
is_ref_of route name r = same_name r.name name && same_name r.route route

-- only the rows of these referents of the route
abbrev pub renamed_ref : Name → Name → List Name → RefRow → RefRow
renamed_ref old new names r = if list_any (λ name. is_ref_of old name r) names then record r { route = new } else r

abbrev pub renamed_refs : Name → Name → List Name → Tables → Tables
renamed_refs old new names t = record t { ref = map (renamed_ref old new names) t.ref }

-- only the rows with the keys of these spans of the route
abbrev pub renamed_span : Name → Name → List Span → SpanRow → SpanRow
renamed_span old new ss r = if list_any (λ s. has_key_of old s r) ss then record r { route = new } else r

abbrev pub renamed_spans : Name → Name → List Span → Tables → Tables
renamed_spans old new ss t = record t { span = map (renamed_span old new ss) t.span }

-- a route with what lies on it: its referents and spans are found by their keys
abbrev pub renamed_route : Name → Name → RouteKeys → Tables → Tables
renamed_route old new keys t = renamed_spans old new keys.spans (renamed_refs old new keys.refs (renamed_marks old new (renamed_pieces old new t)))
