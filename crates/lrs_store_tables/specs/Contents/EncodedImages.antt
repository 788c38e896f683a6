-- The rows that an image is written as.
use Rattle.std.specs.Prelude.{ℕ, pos, List, [], ◌∷◌, map}
use Rattle.std.specs.List.{AllByRecursion, flat_map}
use Rattle.lrs_measure.specs.Texts.{Name}
use Rattle.lrs_element.specs.declared.link.Piece.{Piece}
use Rattle.lrs_machine.specs.declared.image.RouteRow.{RouteRow}
use Rattle.lrs_machine.specs.declared.image.Image.{Image}
use Rattle.lrs_store_tables.specs.Contents.Tables.{Tables, AreSame}
use Rattle.lrs_store_tables.specs.Contents.Encoders.{link_row, class_row, asset_row, piece_row, mark_row, ref_row, span_row, entered_row, gone_row, edit_row, numbered, ArePiecesOf}
use Rattle.lrs_store_tables.specs.Contents.Laws.{origin_row}

-- the rows of an image in a store of version 2, where the routes of these names have these pieces
abbrev pub encoded : (Name → List Piece) → Image → Tables
encoded pieces i = record {
  version = pos 2 ∷ [];
  link = map link_row i.links;
  class = map class_row i.classes;
  asset = map asset_row i.assets;
  piece = flat_map (λ e. numbered (piece_row e.route.name) 0 (pieces e.route.name)) i.routes;
  mark = flat_map (λ e. numbered (mark_row e.route.name) 0 e.route.marks) i.routes;
  ref = flat_map (λ e. map (ref_row e.route.name) e.route.refs) i.routes;
  span = flat_map (λ e. map (span_row e.route.name) e.spans) i.routes;
  entered = map entered_row i.entered;
  gone = map gone_row i.gone;
  edit = numbered edit_row 1 i.edits;
  origin = map origin_row i.assets;
}

-- these are the fewest pieces of each of the routes
abbrev pub ArePiecesOfAll : (Name → List Piece) → List RouteRow → Type 0
ArePiecesOfAll pieces routes = AllByRecursion (λ (e : RouteRow). ArePiecesOf e.route.course (pieces e.route.name)) routes

-- The rows are those that the image is written as, in any order.
pub record Encodes (i : Image) (t : Tables) : Type 0 where
  pub pieces : Name → List Piece
  pub are : ArePiecesOfAll pieces i.routes
  pub rows : AreSame (encoded pieces i) t
