-- Rows of one route beside those of others.
use Rattle.std.proofs.Common.{◌≡◌, Bool, true, false, not, List, [], ◌∷◌, ◌++◌, map, filter, append_assoc, refl, sym, ap, ap₂, ◌∙◌}
use Rattle.std.specs.Prelude.{◌&&◌, Option, Some, None, unwrap_or}
use Rattle.std.specs.List.{AllByRecursion, list_any}
use Rattle.std.proofs.lemmas.Bool.{or_from}
use Rattle.std.proofs.lemmas.List.{map-append}
use Rattle.std.proofs.lemmas.List.Elements.{filter-append}
use Rattle.sqlite_keyed.proofs.ListLemmas.{filter_all, filter_none, filter-map, all_weaker}
use Rattle.lrs_measure.specs.Texts.{Name, same_name}
use Rattle.lrs_element.specs.declared.link.Piece.{Piece}
use Rattle.lrs_element.specs.declared.marks.Mark.{Mark}
use Rattle.lrs_position.specs.declared.route.Referent.{Referent}
use Rattle.lrs_events.specs.declared.span.Span.{Span}
use Rattle.lrs_events.specs.Changes.{has_row, without_rows}
use Rattle.lrs_image.specs.declared.change.ReferentChange.{ReferentChange}
use Rattle.lrs_image.specs.declared.change.RouteChange.{RouteChange}
use Rattle.lrs_store_tables.specs.Contents.Tables.{Tables, PieceRow, MarkRow, RefRow, SpanRow}
use Rattle.lrs_store_tables.specs.Contents.Encoders.{piece_row, mark_row, ref_row, span_row, numbered}
use Rattle.lrs_store_tables.specs.RowChanges.{has_key_of, is_number}
use Rattle.lrs_store_tables.specs.Writes.{with_some, new_pieces, new_marks, changed_refs, changed_spans}
use Rattle.lrs_store_commit.proofs.Laws.Lists.{numbered_all, filter_alike}
use Rattle.lrs_store_commit.proofs.Laws.Naming.{same_itself}

-- the rows of a route with these pieces, marks, referents and spans, beside these tables
abbrev pub beside : Name → List Piece → List Mark → List Referent → List Span → Tables → Tables
beside route ps ms rs ss t = record t {
  piece = numbered (piece_row route) 0 ps ++ t.piece;
  mark = numbered (mark_row route) 0 ms ++ t.mark;
  ref = map (ref_row route) rs ++ t.ref;
  span = map (span_row route) ss ++ t.span;
}

pub and_false : (b : Bool) → (b && false) ≡ false
and_false true = refl
and_false false = refl

-- No row is of the route, or of a referent that goes.
pub record IsClearOf (route : Name) (gone : List Name) (t : Tables) : Type 0 where
  pub piece : AllByRecursion (λ (r : PieceRow). same_name r.route route ≡ false) t.piece
  pub mark : AllByRecursion (λ (r : MarkRow). same_name r.route route ≡ false) t.mark
  pub ref : AllByRecursion (λ (r : RefRow). same_name r.route route ≡ false) t.ref
  pub span : AllByRecursion (λ (r : SpanRow). same_name r.route route ≡ false) t.span
  pub kept : AllByRecursion (λ (r : RefRow). list_any (same_name r.name) gone ≡ false) t.ref

-- Rows that go, of which none is among the others.
leaves : {Row : Type 0} (stays : Row → Bool) (own others : List Row) → AllByRecursion (λ r. stays r ≡ false) own → AllByRecursion (λ r. stays r ≡ true) others → filter stays (own ++ others) ≡ others
leaves stays own others goes stay = filter-append stays own others ∙ ap₂ (λ a b. a ++ b) (filter_none stays own goes) (filter_all stays others stay)

-- Rows of which some go and some come.
exchanges : {X Row : Type 0} (row : X → Row) (stays : Row → Bool) (come xs : List X) (others : List Row) → AllByRecursion (λ r. stays r ≡ true) others
    → map row come ++ filter stays (map row xs ++ others) ≡ map row (come ++ filter (λ x. stays (row x)) xs) ++ others
exchanges row stays come xs others stay =
    ap (λ l. map row come ++ l) (filter-append stays (map row xs) others ∙ ap₂ (λ a b. a ++ b) (filter-map stays row xs) (filter_all stays others stay))
    ∙ sym (append_assoc (map row come) (map row (filter (λ x. stays (row x)) xs)) others)
    ∙ ap (λ l. l ++ others) (sym (map-append row come (filter (λ x. stays (row x)) xs)))

others_stay : {Row : Type 0} (is : Row → Bool) (rows : List Row) → AllByRecursion (λ r. is r ≡ false) rows → AllByRecursion (λ r. not (is r) ≡ true) rows
others_stay is = all_weaker (λ r. is r ≡ false) (λ r. not (is r) ≡ true) (λ r h. ap not h)

module _ (route : Name) (gone : List Name) (t : Tables) (clear : IsClearOf route gone t) where
  new_pieces_beside : (changed : Option (List Piece)) (ps : List Piece) (ms : List Mark) (rs : List Referent) (ss : List Span)
      → with_some (new_pieces route) changed (beside route ps ms rs ss t) ≡ beside route (unwrap_or changed ps) ms rs ss t
  new_pieces_beside None ps ms rs ss = refl
  new_pieces_beside (Some new) ps ms rs ss =
      ap (λ (l : List PieceRow). record (beside route ps ms rs ss t) { piece = numbered (piece_row route) 0 new ++ l })
      (leaves (λ (r : PieceRow). not (same_name r.route route)) (numbered (piece_row route) 0 ps) t.piece
      (numbered_all (λ (r : PieceRow). not (same_name r.route route) ≡ false) (piece_row route) (λ k p. ap not (same_itself route)) 0 ps)
      (others_stay (λ (r : PieceRow). same_name r.route route) t.piece clear.piece))

  new_marks_beside : (changed : Option (List Mark)) (ps : List Piece) (ms : List Mark) (rs : List Referent) (ss : List Span)
      → with_some (new_marks route) changed (beside route ps ms rs ss t) ≡ beside route ps (unwrap_or changed ms) rs ss t
  new_marks_beside None ps ms rs ss = refl
  new_marks_beside (Some new) ps ms rs ss =
      ap (λ (l : List MarkRow). record (beside route ps ms rs ss t) { mark = numbered (mark_row route) 0 new ++ l })
      (leaves (λ (r : MarkRow). not (same_name r.route route)) (numbered (mark_row route) 0 ms) t.mark
      (numbered_all (λ (r : MarkRow). not (same_name r.route route) ≡ false) (mark_row route) (λ k p. ap not (same_itself route)) 0 ms)
      (others_stay (λ (r : MarkRow). same_name r.route route) t.mark clear.mark))

-- the referents that stay
abbrev pub kept_refs : List Name → List Referent → List Referent
kept_refs gone refs = filter (λ (r : Referent). not (list_any (same_name r.name) gone)) refs

changed_refs_beside : (route : Name) (c : ReferentChange) (t : Tables) → IsClearOf route c.gone t → (ps : List Piece) (ms : List Mark) (rs : List Referent) (ss : List Span)
    → changed_refs route c (beside route ps ms rs ss t) ≡ beside route ps ms (c.come ++ kept_refs c.gone rs) ss t
changed_refs_beside route c t clear ps ms rs ss =
    ap (λ (l : List RefRow). record (beside route ps ms rs ss t) { ref = l })
    (exchanges (ref_row route) (λ (r : RefRow). not (list_any (same_name r.name) c.gone)) c.come rs t.ref (others_stay (λ (r : RefRow). list_any (same_name r.name) c.gone) t.ref clear.kept))

-- The rows of these spans whose keys are those of spans that go are those that go.
abbrev pub AreKeyedAs : RouteChange → List Span → Type 0
AreKeyedAs c ss = AllByRecursion (λ s. list_any (λ g. has_key_of c.route g (span_row c.route s)) c.spans_gone ≡ has_row c.spans_gone s) ss

pub other_keys : (route : Name) (gone : List Span) (r : SpanRow) → same_name r.route route ≡ false → list_any (λ g. has_key_of route g r) gone ≡ false
other_keys route [] r h = refl
other_keys route (g ∷ gs) r h =
    let here : has_key_of route g r ≡ false = ap (λ b. (is_number g.asset r.asset && b) && is_number g.from r.lo) h ∙ ap (λ b. b && is_number g.from r.lo) (and_false (is_number g.asset r.asset)) in
    or_from (has_key_of route g r) (list_any (λ x. has_key_of route x r) gs) here (other_keys route gs r h)

changed_spans_beside : (c : RouteChange) (t : Tables) → IsClearOf c.route c.refs.gone t → (ps : List Piece) (ms : List Mark) (rs : List Referent) (ss : List Span) → AreKeyedAs c ss
    → changed_spans c (beside c.route ps ms rs ss t) ≡ beside c.route ps ms rs (c.spans_come ++ without_rows c.spans_gone ss) t
changed_spans_beside c t clear ps ms rs ss keyed =
    let goes : SpanRow → Bool = λ r. list_any (λ g. has_key_of c.route g r) c.spans_gone in
    let others = all_weaker (λ (r : SpanRow). same_name r.route c.route ≡ false) (λ r. not (goes r) ≡ true) (λ r h. ap not (other_keys c.route c.spans_gone r h)) t.span clear.span in
    let own = filter_alike (λ s. not (goes (span_row c.route s))) (λ s. not (has_row c.spans_gone s)) ss (all_weaker (λ s. goes (span_row c.route s) ≡ has_row c.spans_gone s) (λ s. not (goes (span_row c.route s)) ≡ not (has_row c.spans_gone s)) (λ s h. ap not h) ss keyed) in
    ap (λ (l : List SpanRow). record (beside c.route ps ms rs ss t) { span = l })
    (exchanges (span_row c.route) (λ r. not (goes r)) c.spans_come ss t.span others ∙ ap (λ l. map (span_row c.route) (c.spans_come ++ l) ++ t.span) own)

-- the rows before they get the new name
pub changed_beside : (c : RouteChange) (pieces : Option (List Piece)) (t : Tables) → IsClearOf c.route c.refs.gone t → (ps : List Piece) (ms : List Mark) (rs : List Referent) (ss : List Span) → AreKeyedAs c ss
    → changed_spans c (changed_refs c.route c.refs (with_some (new_marks c.route) c.marks (with_some (new_pieces c.route) pieces (beside c.route ps ms rs ss t))))
    ≡ beside c.route (unwrap_or pieces ps) (unwrap_or c.marks ms) (c.refs.come ++ kept_refs c.refs.gone rs) (c.spans_come ++ without_rows c.spans_gone ss) t
changed_beside c pieces t clear ps ms rs ss keyed =
    let other_pieces = unwrap_or pieces ps in
    let other_marks = unwrap_or c.marks ms in
    ap (λ u. changed_spans c (changed_refs c.route c.refs (with_some (new_marks c.route) c.marks u))) (new_pieces_beside c.route c.refs.gone t clear pieces ps ms rs ss)
    ∙ ap (λ u. changed_spans c (changed_refs c.route c.refs u)) (new_marks_beside c.route c.refs.gone t clear c.marks other_pieces ms rs ss)
    ∙ ap (changed_spans c) (changed_refs_beside c.route c.refs t clear other_pieces other_marks rs ss)
    ∙ changed_spans_beside c t clear other_pieces other_marks (c.refs.come ++ kept_refs c.refs.gone rs) ss keyed
