-- A route that gets the name that it has stays as it is, whatever is named of what lies on it.
use Rattle.std.proofs.Common.{◌≡◌, List, [], ◌∷◌, map, Bool, true, false, cond, ◌&&◌, refl, sym, ap, ap₂}
use Rattle.std.specs.List.{list_any}
use Rattle.std.proofs.lemmas.Bool.{and_parts}
use Rattle.std.proofs.lemmas.List.Sorted.{IsPermutation-refl}
use Rattle.std.proofs.lemmas.Slice.Eq.{bytes_eq-Decides}
use Rattle.lrs_measure.specs.Texts.{Name, same_name}
use Rattle.lrs_measure.proofs.Members.{any_found}
use Rattle.lrs_events.specs.declared.span.Span.{Span}
use Rattle.lrs_image.specs.declared.change.RouteKeys.{RouteKeys}
use Rattle.lrs_store_tables.specs.Contents.Tables.{Tables, PieceRow, MarkRow, RefRow, SpanRow}
use Rattle.lrs_store_tables.specs.Contents.Tables.{AreSame}
use Rattle.lrs_store_tables.specs.RowChanges.{is_number, has_key_of, is_ref_of, renamed_piece, renamed_mark, renamed_ref, renamed_span, renamed_route}
use Rattle.lrs_store_tables.proofs.Only.{same_rows}

each_same : {X : Type 0} (f : X → X) → ((x : X) → f x ≡ x) → (xs : List X) → map f xs ≡ xs
each_same f same [] = refl
each_same f same (x ∷ xs) = ap₂ (λ y ys. y ∷ ys) (same x) (each_same f same xs)

same_piece : (name : Name) (r : PieceRow) → renamed_piece name name r ≡ r
same_piece name r = by (same_name r.route name) refl
  where
    by : (b : Bool) → same_name r.route name ≡ b → cond b (record r { route = name }) r ≡ r
    by true e = ap (λ (x : Name). record r { route = x }) (sym ((bytes_eq-Decides r.route name).0 e))
    by false e = refl

same_mark : (name : Name) (r : MarkRow) → renamed_mark name name r ≡ r
same_mark name r = by (same_name r.route name) refl
  where
    by : (b : Bool) → same_name r.route name ≡ b → cond b (record r { route = name }) r ≡ r
    by true e = ap (λ (x : Name). record r { route = x }) (sym ((bytes_eq-Decides r.route name).0 e))
    by false e = refl

same_ref : (name : Name) (names : List Name) (r : RefRow) → renamed_ref name name names r ≡ r
same_ref name names r = by (list_any (λ n. is_ref_of name n r) names) refl
  where
    by : (b : Bool) → list_any (λ n. is_ref_of name n r) names ≡ b → cond b (record r { route = name }) r ≡ r
    by true e =
        let found = any_found (λ n. is_ref_of name n r) names e in
        let on = (and_parts (same_name r.name found.0) (same_name r.route name) found.2).1 in
        ap (λ (x : Name). record r { route = x }) (sym ((bytes_eq-Decides r.route name).0 on))
    by false e = refl

same_span : (name : Name) (ss : List Span) (r : SpanRow) → renamed_span name name ss r ≡ r
same_span name ss r = by (list_any (λ s. has_key_of name s r) ss) refl
  where
    by : (b : Bool) → list_any (λ s. has_key_of name s r) ss ≡ b → cond b (record r { route = name }) r ≡ r
    by true e =
        let found = any_found (λ s. has_key_of name s r) ss e in
        let key = and_parts (is_number found.0.asset r.asset && same_name r.route name) (is_number found.0.from r.lo) found.2 in
        let on = (and_parts (is_number found.0.asset r.asset) (same_name r.route name) key.0).1 in
        ap (λ (x : Name). record r { route = x }) (sym ((bytes_eq-Decides r.route name).0 on))
    by false e = refl

pub renamed_itself : (name : Name) (keys : RouteKeys) (t : Tables) → AreSame (renamed_route name name keys t) t
renamed_itself name keys t = record {
  version = IsPermutation-refl t.version;
  link = IsPermutation-refl t.link;
  class = IsPermutation-refl t.class;
  asset = IsPermutation-refl t.asset;
  piece = same_rows (each_same (renamed_piece name name) (same_piece name) t.piece);
  mark = same_rows (each_same (renamed_mark name name) (same_mark name) t.mark);
  ref = same_rows (each_same (renamed_ref name name keys.refs) (same_ref name keys.refs) t.ref);
  span = same_rows (each_same (renamed_span name name keys.spans) (same_span name keys.spans) t.span);
  entered = IsPermutation-refl t.entered;
  gone = IsPermutation-refl t.gone;
  edit = IsPermutation-refl t.edit;
  origin = IsPermutation-refl t.origin;
}
