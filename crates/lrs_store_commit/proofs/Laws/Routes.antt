-- A route that changes or comes, beside the routes that stay: the rows of the image after it.
use Rattle.std.proofs.Common.{◌≡◌, true, false, cond, List, ◌∷◌, sym, ap, ap₂, subst, ◌∙◌}
use Rattle.std.specs.Prelude.{Option, Some, None, unwrap_or}
use Rattle.std.specs.List.{AllByRecursion, list_any}
use Rattle.sqlite_keyed.proofs.ListLemmas.{all_weaker, all_both, all-map, all-flat_map, all_map}
use Rattle.lrs_measure.specs.OrderedLists.{insert_all}
use Rattle.lrs_measure.specs.Texts.{Name, same_name}
use Rattle.lrs_element.specs.declared.link.Piece.{Piece}
use Rattle.lrs_element.specs.declared.link.Ground.{Ground}
use Rattle.lrs_position.specs.declared.route.Referent.{Referent}
use Rattle.lrs_position.specs.Routes.{referent_before}
use Rattle.lrs_events.specs.Spans.{span_before}
use Rattle.lrs_events.specs.Changes.{without_rows}
use Rattle.lrs_machine.specs.declared.image.RouteRow.{RouteRow}
use Rattle.lrs_machine.specs.declared.image.Image.{Image}
use Rattle.lrs_image.specs.declared.change.RouteChange.{RouteChange}
use Rattle.lrs_image.specs.Change.{fits_after, route_after, entry_after, course_after, IsRenamedWhole}
use Rattle.lrs_image.proofs.Becoming.{becomes}
use Rattle.lrs_store_tables.specs.Contents.Tables.{Tables, AreSame, PieceRow, MarkRow, RefRow, SpanRow}
use Rattle.lrs_store_tables.specs.Contents.Encoders.{piece_row, mark_row, ref_row, span_row, numbered, ArePiecesOf}
use Rattle.lrs_store_tables.specs.Contents.EncodedImages.{encoded, ArePiecesOfAll, Encodes}
use Rattle.lrs_store_tables.specs.Writes.{ArePieces, changed_route, new_route}
use Rattle.lrs_store_tables.specs.RowLaws.{same_refl}
use Rattle.lrs_store_tables.proofs.Steady.{steady-changed_route, steady-new_route}
use Rattle.lrs_store_commit.proofs.Laws.Lists.{numbered_all, flat_map_alike}
use Rattle.lrs_store_commit.proofs.Laws.Naming.{same_itself}
use Rattle.lrs_store_commit.proofs.Laws.Tabled.{over, pieces_of, marks_of, refs_of, spans_of, encodes_by}
use Rattle.lrs_store_commit.proofs.Laws.Beside.{beside, IsClearOf, kept_refs, AreKeyedAs}
use Rattle.lrs_store_commit.proofs.Laws.Changed.{becomes_beside}

-- the pieces of routes, where one has these
abbrev pub with_own : Name → List Piece → (Name → List Piece) → Name → List Piece
with_own route own pieces name = cond (same_name name route) own (pieces name)

-- no other route has the name
abbrev pub AreOthers : Name → List RouteRow → Type 0
AreOthers route others = AllByRecursion (λ (e : RouteRow). same_name e.route.name route ≡ false) others

other_pieces : (route : Name) (own : List Piece) (pieces : Name → List Piece) (others : List RouteRow) → AreOthers route others → AllByRecursion (λ (e : RouteRow). with_own route own pieces e.route.name ≡ pieces e.route.name) others
other_pieces route own pieces others =
    all_weaker (λ (e : RouteRow). same_name e.route.name route ≡ false) (λ (e : RouteRow). with_own route own pieces e.route.name ≡ pieces e.route.name) (λ e h. ap (λ b. cond b own (pieces e.route.name)) h) others

others_alike : (route : Name) (own : List Piece) (pieces : Name → List Piece) (i : Image) (others : List RouteRow) → AreOthers route others → encoded (with_own route own pieces) (over i others) ≡ encoded pieces (over i others)
others_alike route own pieces i others apart =
    ap (λ (l : List PieceRow). record (encoded pieces (over i others)) { piece = l })
    (flat_map_alike (pieces_of (with_own route own pieces)) (pieces_of pieces) others
    (all_weaker (λ (e : RouteRow). with_own route own pieces e.route.name ≡ pieces e.route.name) (λ (e : RouteRow). pieces_of (with_own route own pieces) e ≡ pieces_of pieces e)
    (λ e h. ap (λ ps. numbered (piece_row e.route.name) 0 ps) h) others (other_pieces route own pieces others apart)))

others_are : (route : Name) (own : List Piece) (pieces : Name → List Piece) (others : List RouteRow) → AreOthers route others → ArePiecesOfAll pieces others → ArePiecesOfAll (with_own route own pieces) others
others_are route own pieces others apart =
    all_both (λ (e : RouteRow). with_own route own pieces e.route.name ≡ pieces e.route.name) (λ (e : RouteRow). ArePiecesOf e.route.course (pieces e.route.name)) (λ (e : RouteRow). ArePiecesOf e.route.course (with_own route own pieces e.route.name))
    (λ e same are. subst (ArePiecesOf e.route.course) (sym same) are) others (other_pieces route own pieces others apart)

own_is : (route : Name) (own : List Piece) (pieces : Name → List Piece) → with_own route own pieces route ≡ own
own_is route own pieces = ap (λ b. cond b own (pieces route)) (same_itself route)

-- a route that comes
pub comes : (e : RouteRow) (made : Option (List Piece)) → ArePieces (Some e.route.course) made → (i : Image) (others : List RouteRow) (t : Tables) → AreOthers e.route.name others
    → Encodes (over i others) t → Encodes (over i (e ∷ others)) (new_route e made t)
comes e None are i others t apart h = absurd are
comes e (Some own) are i others t apart h =
    let name = e.route.name in
    let pieces = with_own name own h.pieces in
    let same : encoded pieces (over i (e ∷ others)) ≡ new_route e (Some own) (encoded h.pieces (over i others)) =
    ap₂ (λ ps u. beside name ps e.route.marks e.route.refs e.spans u) (own_is name own h.pieces) (others_alike name own h.pieces i others apart) in
    encodes_by (new_route e (Some own)) (steady-new_route e (Some own)) (over i others) (over i (e ∷ others)) t h pieces
    (subst (ArePiecesOf e.route.course) (sym (own_is name own h.pieces)) are, others_are name own h.pieces others apart h.are)
    (subst (AreSame (encoded pieces (over i (e ∷ others)))) same (same_refl _))

-- A route that can change, beside the others: it has the old name, no other has the old or the new one, what goes is on it alone, and where it gets another name all that then lies on it is named.
pub record IsBeside (c : RouteChange) (e : RouteRow) (others : List RouteRow) : Type 0 where
  pub named : e.route.name ≡ c.route
  pub fits : fits_after c e.route ≡ true
  pub old : AreOthers c.route others
  pub new : AreOthers c.name others
  pub refs : AllByRecursion (λ (o : RouteRow). AllByRecursion (λ (r : Referent). list_any (same_name r.name) c.refs.gone ≡ false) o.route.refs) others
  pub spans : AreKeyedAs c e.spans
  pub renamed : IsRenamedWhole c e

clear_of : (c : RouteChange) (e : RouteRow) (others : List RouteRow) → IsBeside c e others → (pieces : Name → List Piece) (i : Image) → IsClearOf c.route c.refs.gone (encoded pieces (over i others))
clear_of c e others h pieces i = record {
  piece = all-flat_map (λ (r : PieceRow). same_name r.route c.route ≡ false) (pieces_of pieces) others
      (all_weaker (λ (o : RouteRow). same_name o.route.name c.route ≡ false) (λ (o : RouteRow). AllByRecursion (λ (r : PieceRow). same_name r.route c.route ≡ false) (pieces_of pieces o)) (λ o k. numbered_all (λ (r : PieceRow). same_name r.route c.route ≡ false) (piece_row o.route.name) (λ n p. k) 0 (pieces o.route.name)) others h.old);
  mark = all-flat_map (λ (r : MarkRow). same_name r.route c.route ≡ false) marks_of others
      (all_weaker (λ (o : RouteRow). same_name o.route.name c.route ≡ false) (λ (o : RouteRow). AllByRecursion (λ (r : MarkRow). same_name r.route c.route ≡ false) (marks_of o)) (λ o k. numbered_all (λ (r : MarkRow). same_name r.route c.route ≡ false) (mark_row o.route.name) (λ n p. k) 0 o.route.marks) others h.old);
  ref = all-flat_map (λ (r : RefRow). same_name r.route c.route ≡ false) refs_of others
      (all_weaker (λ (o : RouteRow). same_name o.route.name c.route ≡ false) (λ (o : RouteRow). AllByRecursion (λ (r : RefRow). same_name r.route c.route ≡ false) (refs_of o)) (λ o k. all-map (λ (r : RefRow). same_name r.route c.route ≡ false) (ref_row o.route.name) (λ r. k) o.route.refs) others h.old);
  span = all-flat_map (λ (r : SpanRow). same_name r.route c.route ≡ false) spans_of others
      (all_weaker (λ (o : RouteRow). same_name o.route.name c.route ≡ false) (λ (o : RouteRow). AllByRecursion (λ (r : SpanRow). same_name r.route c.route ≡ false) (spans_of o)) (λ o k. all-map (λ (r : SpanRow). same_name r.route c.route ≡ false) (span_row o.route.name) (λ s. k) o.spans) others h.old);
  kept = all-flat_map (λ (r : RefRow). list_any (same_name r.name) c.refs.gone ≡ false) refs_of others
      (all_weaker (λ (o : RouteRow). AllByRecursion (λ (r : Referent). list_any (same_name r.name) c.refs.gone ≡ false) o.route.refs) (λ (o : RouteRow). AllByRecursion (λ (r : RefRow). list_any (same_name r.name) c.refs.gone ≡ false) (refs_of o)) (λ o k. all_map (λ (r : RefRow). list_any (same_name r.name) c.refs.gone ≡ false) (ref_row o.route.name) o.route.refs k) others h.refs);
}

pieces_after : (course : Option (List Ground)) (changed : Option (List Piece)) → ArePieces course changed → (own : List Ground) (ps : List Piece) → ArePiecesOf own ps → ArePiecesOf (unwrap_or course own) (unwrap_or changed ps)
pieces_after None None are own ps h = h
pieces_after None (Some new) are own ps h = absurd are
pieces_after (Some course) None are own ps h = absurd are
pieces_after (Some course) (Some new) are own ps h = are

-- a route that changes
pub changes : (c : RouteChange) (changed : Option (List Piece)) → ArePieces c.course changed → (e : RouteRow) (i : Image) (others : List RouteRow) (t : Tables) → IsBeside c e others
    → Encodes (over i (e ∷ others)) t → Encodes (over i (entry_after c e ∷ others)) (changed_route c changed t)
changes c changed are e i others t it h =
    let after = becomes c e.route it.fits in
    let own = unwrap_or changed (h.pieces c.route) in
    let pieces = with_own c.name own h.pieces in
    let refs = insert_all referent_before c.refs.come (kept_refs c.refs.gone e.route.refs) in
    let spans = insert_all span_before c.spans_come (without_rows c.spans_gone e.spans) in
    let rest = encoded h.pieces (over i others) in
    let old : encoded h.pieces (over i (e ∷ others)) ≡ beside c.route (h.pieces c.route) e.route.marks e.route.refs e.spans rest =
    ap (λ name. beside name (h.pieces name) e.route.marks e.route.refs e.spans rest) it.named in
    let alike = others_alike c.name own h.pieces i others it.new in
    let changed_one : encoded pieces (over i (entry_after c e ∷ others)) ≡ beside c.name (pieces c.name) (unwrap_or c.marks e.route.marks) refs spans rest =
    λ j. beside (after.name j) (pieces (after.name j)) (after.marks j) (after.refs j) spans (alike j) in
    let new : encoded pieces (over i (entry_after c e ∷ others)) ≡ beside c.name own (unwrap_or c.marks e.route.marks) refs spans rest =
    changed_one ∙ ap (λ ps. beside c.name ps (unwrap_or c.marks e.route.marks) refs spans rest) (own_is c.name own h.pieces) in
    let clear = clear_of c e others it h.pieces i in
    let rows = becomes_beside c changed rest clear (h.pieces c.route) e.route.marks e.route.refs e.spans it.spans it.renamed in
    let own_are : ArePiecesOf (course_after c e.route) own = pieces_after c.course changed are e.route.course (h.pieces c.route) (subst (λ name. ArePiecesOf e.route.course (h.pieces name)) it.named h.are.0) in
    encodes_by (changed_route c changed) (steady-changed_route c changed) (over i (e ∷ others)) (over i (entry_after c e ∷ others)) t h pieces
    (subst (λ course. ArePiecesOf course (pieces (route_after c e.route).name)) (sym after.course) (subst (ArePiecesOf (course_after c e.route)) (sym (ap pieces after.name ∙ own_is c.name own h.pieces)) own_are), others_are c.name own h.pieces others it.new h.are.1)
    (subst (λ u. AreSame u (changed_route c changed (encoded h.pieces (over i (e ∷ others))))) (sym new) (subst (λ u. AreSame (beside c.name own (unwrap_or c.marks e.route.marks) refs spans rest) (changed_route c changed u)) (sym old) rows))
