-- The rows of an image whose routes are given.
use Rattle.std.proofs.Common.{List, map, IsPermutation}
use Rattle.std.specs.List.{AllByRecursion}
use Rattle.std.proofs.lemmas.List.Sorted.{IsPermutation-refl, IsPermutation-sym, All-permutation}
use Rattle.std.proofs.lemmas.List.Elements.{All-from_recursion, recursion_from_All}
use Rattle.sqlite_keyed.proofs.ListLemmas.{IsPermutation-flat_map}
use Rattle.lrs_measure.specs.Texts.{Name}
use Rattle.lrs_element.specs.declared.link.Piece.{Piece}
use Rattle.lrs_machine.specs.declared.image.RouteRow.{RouteRow}
use Rattle.lrs_machine.specs.declared.image.Image.{Image}
use Rattle.lrs_store_tables.specs.Contents.Tables.{Tables, AreSame, PieceRow, MarkRow, RefRow, SpanRow}
use Rattle.lrs_store_tables.specs.Contents.Encoders.{piece_row, mark_row, ref_row, span_row, numbered, ArePiecesOf}
use Rattle.lrs_store_tables.specs.Contents.EncodedImages.{encoded, ArePiecesOfAll, Encodes}
use Rattle.lrs_store_tables.specs.RowLaws.{same_trans}
use Rattle.lrs_store_tables.proofs.Steady.{IsSteady}

-- an image with these routes
abbrev pub over : Image → List RouteRow → Image
over i routes = record i { routes = routes }

-- the rows of one route

abbrev pub pieces_of : (Name → List Piece) → RouteRow → List PieceRow
pieces_of pieces e = numbered (piece_row e.route.name) 0 (pieces e.route.name)

abbrev pub marks_of : RouteRow → List MarkRow
marks_of e = numbered (mark_row e.route.name) 0 e.route.marks

abbrev pub refs_of : RouteRow → List RefRow
refs_of e = map (ref_row e.route.name) e.route.refs

abbrev pub spans_of : RouteRow → List SpanRow
spans_of e = map (span_row e.route.name) e.spans

pub all_permuted : {X : Type 0} (P : X → Type 0) (xs ys : List X) → IsPermutation xs ys → AllByRecursion P xs → AllByRecursion P ys
all_permuted P xs ys same h = recursion_from_All P ys (All-permutation P xs ys same (All-from_recursion P xs h))

-- The rows are the same in whichever order the routes are.
pub same_over : (pieces : Name → List Piece) (i : Image) (routes others : List RouteRow) → IsPermutation routes others → AreSame (encoded pieces (over i routes)) (encoded pieces (over i others))
same_over pieces i routes others same = record {
  version = IsPermutation-refl _;
  link = IsPermutation-refl _;
  class = IsPermutation-refl _;
  asset = IsPermutation-refl _;
  piece = IsPermutation-flat_map (pieces_of pieces) routes others same;
  mark = IsPermutation-flat_map marks_of routes others same;
  ref = IsPermutation-flat_map refs_of routes others same;
  span = IsPermutation-flat_map spans_of routes others same;
  entered = IsPermutation-refl _;
  gone = IsPermutation-refl _;
  edit = IsPermutation-refl _;
  origin = IsPermutation-refl _;
}

pub encodes_over : (i : Image) (routes others : List RouteRow) (t : Tables) → IsPermutation others routes → Encodes (over i routes) t → Encodes (over i others) t
encodes_over i routes others t same e = record {
  pieces = e.pieces;
  are = all_permuted (λ (r : RouteRow). ArePiecesOf r.route.course (e.pieces r.route.name)) routes others (IsPermutation-sym _ _ same) e.are;
  rows = same_trans _ _ _ (same_over e.pieces i others routes same) e.rows;
}

-- What makes the rows of the new image of those of the old one does so in whichever order they are.
pub encodes_by : (f : Tables → Tables) → IsSteady f → (i new : Image) (t : Tables) (e : Encodes i t) (pieces : Name → List Piece) → ArePiecesOfAll pieces new.routes → AreSame (encoded pieces new) (f (encoded e.pieces i)) → Encodes new (f t)
encodes_by f steady i new t e pieces are rows = record { pieces = pieces; are = are; rows = same_trans _ _ _ rows (steady _ _ e.rows) }
