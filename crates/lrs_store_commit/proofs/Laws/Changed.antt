-- What a change makes of the rows of the route that stays, beside those of the others.
use Rattle.std.proofs.Common.{◌≡◌, ℕ, Bool, true, false, cond, List, ◌++◌, map, refl, sym, ap, ap₂, subst, ◌∙◌, IsPermutation}
use Rattle.std.specs.Prelude.{◌&&◌, Option, unwrap_or}
use Rattle.std.specs.List.{AllByRecursion, list_any}
use Rattle.std.proofs.lemmas.Bool.{and_from}
use Rattle.std.proofs.lemmas.List.{map-append}
use Rattle.std.proofs.lemmas.List.Sorted.{IsPermutation-refl, IsPermutation-map, IsPermutation-sym, IsPermutation-append_left, list_any-IsPermutation}
use Rattle.sqlite_keyed.proofs.ListLemmas.{map-map, all_of, all_weaker, any_from_none}
use Rattle.lrs_measure.specs.Texts.{Name, same_name}
use Rattle.lrs_measure.specs.OrderedLists.{insert_all}
use Rattle.lrs_measure.proofs.Members.{any_of, In-map}
use Rattle.lrs_element.specs.declared.link.Piece.{Piece}
use Rattle.lrs_element.specs.declared.marks.Mark.{Mark}
use Rattle.lrs_position.specs.declared.route.Referent.{Referent}
use Rattle.lrs_position.specs.Routes.{referent_before}
use Rattle.lrs_events.specs.declared.span.Span.{Span}
use Rattle.lrs_events.specs.Spans.{span_before}
use Rattle.lrs_events.specs.Changes.{without_rows}
use Rattle.lrs_events.proofs.LaneLists.Inserted.{IsPermutation-insert_all}
use Rattle.lrs_image.specs.declared.change.RouteChange.{RouteChange}
use Rattle.lrs_image.specs.declared.change.RouteKeys.{RouteKeys}
use Rattle.lrs_image.specs.Change.{keys_of}
use Rattle.lrs_store_tables.specs.Contents.Tables.{Tables, AreSame, PieceRow, MarkRow, RefRow, SpanRow}
use Rattle.lrs_store_tables.specs.Contents.Encoders.{piece_row, mark_row, ref_row, span_row, numbered}
use Rattle.lrs_store_tables.specs.RowChanges.{has_key_of, is_ref_of, renamed_piece, renamed_mark, renamed_ref, renamed_span, renamed_route}
use Rattle.lrs_store_tables.specs.Writes.{changed_route}
use Rattle.lrs_store_commit.proofs.Laws.Lists.{map-numbered, map_alike, map_kept, all_members}
use Rattle.lrs_store_commit.proofs.Laws.Naming.{same_is, same_itself}
use Rattle.lrs_store_commit.proofs.Laws.Keys.{key_itself}
use Rattle.lrs_store_commit.proofs.Laws.Beside.{beside, and_false, IsClearOf, kept_refs, AreKeyedAs, other_keys, changed_beside}

-- ---- referents and spans, which get the new name by their keys

-- Each row of these referents and spans is listed.
record AreListed (route : Name) (keys : RouteKeys) (rs : List Referent) (ss : List Span) : Type 0 where
  refs : AllByRecursion (λ (r : Referent). list_any (λ name. is_ref_of route name (ref_row route r)) keys.refs ≡ true) rs
  spans : AllByRecursion (λ (s : Span). list_any (λ g. has_key_of route g (span_row route s)) keys.spans ≡ true) ss

listed_refs : (route : Name) (refs ordered : List Referent) → IsPermutation refs ordered → AllByRecursion (λ (r : Referent). list_any (λ name. is_ref_of route name (ref_row route r)) (map (λ (x : Referent). x.name) ordered) ≡ true) refs
listed_refs route refs ordered same =
    let name : Referent → Name = λ r. r.name in
    all_members (λ (r : Referent). list_any (λ n. is_ref_of route n (ref_row route r)) (map name ordered) ≡ true) refs
    (λ r m. sym (list_any-IsPermutation (λ n. is_ref_of route n (ref_row route r)) (map name refs) (map name ordered) (IsPermutation-map name refs ordered same))
    ∙ any_of (λ n. is_ref_of route n (ref_row route r)) r.name (map name refs) (In-map name r refs m) (and_from (same_name r.name r.name) (same_name route route) (same_itself r.name) (same_itself route)))

listed_spans : (route : Name) (spans ordered : List Span) → IsPermutation spans ordered → AllByRecursion (λ (s : Span). list_any (λ g. has_key_of route g (span_row route s)) ordered ≡ true) spans
listed_spans route spans ordered same =
    all_members (λ (s : Span). list_any (λ g. has_key_of route g (span_row route s)) ordered ≡ true) spans
    (λ s m. sym (list_any-IsPermutation (λ g. has_key_of route g (span_row route s)) spans ordered same) ∙ any_of (λ g. has_key_of route g (span_row route s)) s spans m (key_itself route s))

-- A row of another route is of none of them.
other_names : (route : Name) (names : List Name) (r : RefRow) → same_name r.route route ≡ false → list_any (λ name. is_ref_of route name r) names ≡ false
other_names route names r h =
    any_from_none (λ name. is_ref_of route name r) names (all_of (λ name. is_ref_of route name r ≡ false) (λ name. ap (λ b. same_name r.name name && b) h ∙ and_false (same_name r.name name)) names)

either_way : {X : Type 0} (b : Bool) (x y : X) → y ≡ x → cond b x y ≡ x
either_way true x y e = refl
either_way false x y e = e

-- Where the name changes each row is listed, and where it does not each row stays what it is.
refs_are : (old new : Name) (keys : RouteKeys) (rs : List Referent) → (same_name old new ≡ false → AllByRecursion (λ (r : Referent). list_any (λ name. is_ref_of old name (ref_row old r)) keys.refs ≡ true) rs)
    → AllByRecursion (λ (r : Referent). renamed_ref old new keys.refs (ref_row old r) ≡ ref_row new r) rs
refs_are old new keys rs listed = by (same_name old new) refl
  where
    by : (b : Bool) → same_name old new ≡ b → AllByRecursion (λ (r : Referent). renamed_ref old new keys.refs (ref_row old r) ≡ ref_row new r) rs
    by true e =
        all_of (λ (r : Referent). renamed_ref old new keys.refs (ref_row old r) ≡ ref_row new r)
        (λ r. either_way (list_any (λ name. is_ref_of old name (ref_row old r)) keys.refs) (ref_row new r) (ref_row old r) (ap (λ n. ref_row n r) (same_is old new e))) rs
    by false e =
        all_weaker (λ (r : Referent). list_any (λ name. is_ref_of old name (ref_row old r)) keys.refs ≡ true) (λ (r : Referent). renamed_ref old new keys.refs (ref_row old r) ≡ ref_row new r)
        (λ r h. ap (λ b. cond b (ref_row new r) (ref_row old r)) h) rs (listed e)

spans_are : (old new : Name) (keys : RouteKeys) (ss : List Span) → (same_name old new ≡ false → AllByRecursion (λ (s : Span). list_any (λ g. has_key_of old g (span_row old s)) keys.spans ≡ true) ss)
    → AllByRecursion (λ (s : Span). renamed_span old new keys.spans (span_row old s) ≡ span_row new s) ss
spans_are old new keys ss listed = by (same_name old new) refl
  where
    by : (b : Bool) → same_name old new ≡ b → AllByRecursion (λ (s : Span). renamed_span old new keys.spans (span_row old s) ≡ span_row new s) ss
    by true e =
        all_of (λ (s : Span). renamed_span old new keys.spans (span_row old s) ≡ span_row new s)
        (λ s. either_way (list_any (λ g. has_key_of old g (span_row old s)) keys.spans) (span_row new s) (span_row old s) (ap (λ n. span_row n s) (same_is old new e))) ss
    by false e =
        all_weaker (λ (s : Span). list_any (λ g. has_key_of old g (span_row old s)) keys.spans ≡ true) (λ (s : Span). renamed_span old new keys.spans (span_row old s) ≡ span_row new s)
        (λ s h. ap (λ b. cond b (span_row new s) (span_row old s)) h) ss (listed e)

-- ---- the rows of all tables

module _ (old new : Name) (gone : List Name) (t : Tables) (clear : IsClearOf old gone t) where
  piece_is : (k : ℕ) (p : Piece) → renamed_piece old new (piece_row old k p) ≡ piece_row new k p
  piece_is k p = ap (λ b. cond b (piece_row new k p) (piece_row old k p)) (same_itself old)

  mark_is : (k : ℕ) (m : Mark) → renamed_mark old new (mark_row old k m) ≡ mark_row new k m
  mark_is k m = ap (λ b. cond b (mark_row new k m) (mark_row old k m)) (same_itself old)

  other_pieces : map (renamed_piece old new) t.piece ≡ t.piece
  other_pieces = map_kept (renamed_piece old new) t.piece (all_weaker (λ (r : PieceRow). same_name r.route old ≡ false) (λ r. renamed_piece old new r ≡ r) (λ r h. ap (λ b. cond b (record r { route = new }) r) h) t.piece clear.piece)

  other_marks : map (renamed_mark old new) t.mark ≡ t.mark
  other_marks = map_kept (renamed_mark old new) t.mark (all_weaker (λ (r : MarkRow). same_name r.route old ≡ false) (λ r. renamed_mark old new r ≡ r) (λ r h. ap (λ b. cond b (record r { route = new }) r) h) t.mark clear.mark)

  other_refs : (keys : RouteKeys) → map (renamed_ref old new keys.refs) t.ref ≡ t.ref
  other_refs keys = map_kept (renamed_ref old new keys.refs) t.ref (all_weaker (λ (r : RefRow). same_name r.route old ≡ false) (λ r. renamed_ref old new keys.refs r ≡ r) (λ r h. ap (λ b. cond b (record r { route = new }) r) (other_names old keys.refs r h)) t.ref clear.ref)

  other_spans : (keys : RouteKeys) → map (renamed_span old new keys.spans) t.span ≡ t.span
  other_spans keys = map_kept (renamed_span old new keys.spans) t.span (all_weaker (λ (r : SpanRow). same_name r.route old ≡ false) (λ r. renamed_span old new keys.spans r ≡ r) (λ r h. ap (λ b. cond b (record r { route = new }) r) (other_keys old keys.spans r h)) t.span clear.span)

  renamed_beside : (keys : RouteKeys) (ps : List Piece) (ms : List Mark) (rs : List Referent) (ss : List Span) → (same_name old new ≡ false → AreListed old keys rs ss) → renamed_route old new keys (beside old ps ms rs ss t) ≡ beside new ps ms rs ss t
  renamed_beside keys ps ms rs ss listed =
      let pieces = map-append (renamed_piece old new) (numbered (piece_row old) 0 ps) t.piece ∙ ap₂ (λ a b. a ++ b) (map-numbered (renamed_piece old new) (piece_row old) (piece_row new) piece_is 0 ps) other_pieces in
      let marks = map-append (renamed_mark old new) (numbered (mark_row old) 0 ms) t.mark ∙ ap₂ (λ a b. a ++ b) (map-numbered (renamed_mark old new) (mark_row old) (mark_row new) mark_is 0 ms) other_marks in
      let refs = map-append (renamed_ref old new keys.refs) (map (ref_row old) rs) t.ref ∙ ap₂ (λ a b. a ++ b) (map-map (renamed_ref old new keys.refs) (ref_row old) rs ∙ map_alike (λ r. renamed_ref old new keys.refs (ref_row old r)) (ref_row new) rs (refs_are old new keys rs (λ e. (listed e).refs))) (other_refs keys) in
      let spans = map-append (renamed_span old new keys.spans) (map (span_row old) ss) t.span ∙ ap₂ (λ a b. a ++ b) (map-map (renamed_span old new keys.spans) (span_row old) ss ∙ map_alike (λ s. renamed_span old new keys.spans (span_row old s)) (span_row new) ss (spans_are old new keys ss (λ e. (listed e).spans))) (other_spans keys) in
      λ i. record t { piece = pieces i; mark = marks i; ref = refs i; span = spans i }

-- Referents and spans stand in the tables in any order.
in_any_order : (route : Name) (ps : List Piece) (ms : List Mark) (rs refs : List Referent) (ss spans : List Span) (t : Tables) → IsPermutation rs refs → IsPermutation ss spans → AreSame (beside route ps ms rs ss t) (beside route ps ms refs spans t)
in_any_order route ps ms rs refs ss spans t same alike = record {
  version = IsPermutation-refl _;
  link = IsPermutation-refl _;
  class = IsPermutation-refl _;
  asset = IsPermutation-refl _;
  piece = IsPermutation-refl _;
  mark = IsPermutation-refl _;
  ref = IsPermutation-append_left t.ref _ _ (IsPermutation-map (ref_row route) rs refs same);
  span = IsPermutation-append_left t.span _ _ (IsPermutation-map (span_row route) ss spans alike);
  entered = IsPermutation-refl _;
  gone = IsPermutation-refl _;
  edit = IsPermutation-refl _;
  origin = IsPermutation-refl _;
}

-- What is named of a route is what lies on it after the change, in any order.
abbrev pub IsNamedWhole : RouteChange → List Referent → List Span → Type 0
IsNamedWhole c rs ss = same_name c.route c.name ≡ false → c.keys ≡ keys_of (insert_all referent_before c.refs.come (kept_refs c.refs.gone rs)) (insert_all span_before c.spans_come (without_rows c.spans_gone ss))

are_listed : (c : RouteChange) (rs : List Referent) (ss : List Span) → IsNamedWhole c rs ss → same_name c.route c.name ≡ false → AreListed c.route c.keys (c.refs.come ++ kept_refs c.refs.gone rs) (c.spans_come ++ without_rows c.spans_gone ss)
are_listed c rs ss whole new =
    subst (λ k. AreListed c.route k (c.refs.come ++ kept_refs c.refs.gone rs) (c.spans_come ++ without_rows c.spans_gone ss)) (sym (whole new)) (record {
      refs = listed_refs c.route (c.refs.come ++ kept_refs c.refs.gone rs) _ (IsPermutation-insert_all referent_before c.refs.come (kept_refs c.refs.gone rs));
      spans = listed_spans c.route (c.spans_come ++ without_rows c.spans_gone ss) _ (IsPermutation-insert_all span_before c.spans_come (without_rows c.spans_gone ss));
    })

-- The rows of the route are those of what it becomes, under its new name.
pub becomes_beside : (c : RouteChange) (pieces : Option (List Piece)) (t : Tables) → IsClearOf c.route c.refs.gone t → (ps : List Piece) (ms : List Mark) (rs : List Referent) (ss : List Span) → AreKeyedAs c ss → IsNamedWhole c rs ss
    → AreSame (beside c.name (unwrap_or pieces ps) (unwrap_or c.marks ms) (insert_all referent_before c.refs.come (kept_refs c.refs.gone rs)) (insert_all span_before c.spans_come (without_rows c.spans_gone ss)) t) (changed_route c pieces (beside c.route ps ms rs ss t))
becomes_beside c pieces t clear ps ms rs ss keyed named =
    let refs = c.refs.come ++ kept_refs c.refs.gone rs in
    let spans = c.spans_come ++ without_rows c.spans_gone ss in
    let whole = ap (renamed_route c.route c.name c.keys) (changed_beside c pieces t clear ps ms rs ss keyed) ∙ renamed_beside c.route c.name c.refs.gone t clear c.keys (unwrap_or pieces ps) (unwrap_or c.marks ms) refs spans (are_listed c rs ss named) in
    subst (λ u. AreSame (beside c.name (unwrap_or pieces ps) (unwrap_or c.marks ms) (insert_all referent_before c.refs.come (kept_refs c.refs.gone rs)) (insert_all span_before c.spans_come (without_rows c.spans_gone ss)) t) u) (sym whole)
    (in_any_order c.name (unwrap_or pieces ps) (unwrap_or c.marks ms) _ _ _ _ t
    (IsPermutation-sym _ _ (IsPermutation-insert_all referent_before c.refs.come (kept_refs c.refs.gone rs)))
    (IsPermutation-sym _ _ (IsPermutation-insert_all span_before c.spans_come (without_rows c.spans_gone ss))))
