-- A route that goes takes its rows with it: its pieces and marks by its name, its referents and spans by their keys.
use Rattle.std.proofs.Common.{◌≡◌, true, false, not, List, ◌∷◌, map, filter, flat_map, find, refl, sym, ap, subst, ◌∙◌, IsPermutation}
use Rattle.std.specs.Prelude.{Option, Some, None}
use Rattle.std.specs.List.{AllByRecursion, list_any}
use Rattle.std.proofs.lemmas.List.Sorted.{IsPermutation-refl, IsPermutation-sym}
use Rattle.sqlite_keyed.proofs.ListLemmas.{IsPermutation-same, all-map, all-filter, all-flat_map, all_map, all_weaker, all_both}
use Rattle.lrs_measure.specs.Lists.{each_two}
use Rattle.lrs_measure.specs.Texts.{Name, same_name}
use Rattle.lrs_measure.proofs.Members.{any_of, all_of, In-map, map_found}
use Rattle.lrs_element.specs.declared.link.Piece.{Piece}
use Rattle.lrs_position.specs.declared.route.Referent.{Referent}
use Rattle.lrs_events.specs.declared.span.Span.{Span}
use Rattle.lrs_machine.specs.declared.image.RouteRow.{RouteRow}
use Rattle.lrs_machine.specs.declared.image.Image.{Image}
use Rattle.lrs_machine.specs.Sound.{route_before}
use Rattle.lrs_image.specs.declared.change.RouteKeys.{RouteKeys}
use Rattle.lrs_image.specs.Change.{is_named, without, without_some, keys_of, refers_to, are_names_of, GoesWholeIfAny}
use Rattle.lrs_store_tables.specs.Contents.Tables.{Tables, AreSame, PieceRow, MarkRow, RefRow, SpanRow}
use Rattle.lrs_store_tables.specs.Contents.Encoders.{piece_row, mark_row, ref_row, span_row, ArePiecesOf}
use Rattle.lrs_store_tables.specs.Contents.EncodedImages.{encoded, Encodes}
use Rattle.lrs_store_tables.specs.RowChanges.{has_key_of, without_route}
use Rattle.lrs_store_tables.specs.Writes.{with_some}
use Rattle.lrs_store_tables.proofs.Steady.{steady-without_route}
use Rattle.lrs_store_commit.proofs.Laws.Lists.{numbered_all, all_members, filter_alike, filter-flat_map}
use Rattle.lrs_store_commit.proofs.Laws.Naming.{same_itself}
use Rattle.lrs_store_commit.proofs.Laws.Keys.{key_itself}
use Rattle.lrs_store_commit.proofs.Laws.Tabled.{over, pieces_of, marks_of, refs_of, spans_of, all_permuted, encodes_by}
use Rattle.lrs_store_commit.proofs.Laws.Beside.{other_keys}
use Rattle.lrs_store_commit.proofs.Laws.Routes.{AreOthers}
use Rattle.lrs_store_commit.proofs.Laws.Apart.{differ, referents, others_apart, taken, found_is_named, gone_elsewhere}

abbrev names_of : RouteRow → List Name
names_of e = map (λ (r : Referent). r.name) e.route.refs

-- its referents have these names
own_names : (e : RouteRow) → are_names_of e (names_of e) ≡ true
own_names e =
    all_of (λ name. list_any (refers_to name) e.route.refs) (names_of e)
    (λ name m.
    let found = map_found (λ (r : Referent). r.name) name e.route.refs m in
    any_of (refers_to name) found.0 e.route.refs found.1 (subst (λ n. same_name found.0.name n ≡ true) (sym found.2) (same_itself found.0.name)))

-- of routes in the order of their names, with referents that differ, one that is found goes
module _ (route : Name) (e : RouteRow) (routes : List RouteRow) (found : find (is_named route) routes ≡ Some e) (order : each_two route_before routes ≡ true) (once : each_two differ (referents routes) ≡ true) where
  abbrev others : List RouteRow
  others = without route routes

  abbrev keys : RouteKeys
  keys = keys_of e.route.refs e.spans

  named : e.route.name ≡ route
  named = found_is_named route routes e found

  own : same_name e.route.name route ≡ true
  own = subst (λ n. same_name e.route.name n ≡ true) named (same_itself e.route.name)

  same : IsPermutation routes (e ∷ others)
  same = taken route routes e found order

  apart : AreOthers route others
  apart = subst (λ n. AreOthers n others) named (others_apart e others routes same order)

  -- A row is of a referent that goes where it is on the route.
  abbrev IsRefAlike : RefRow → Type 0
  IsRefAlike r = list_any (same_name r.name) keys.refs ≡ same_name r.route route

  own_refs : AllByRecursion IsRefAlike (refs_of e)
  own_refs =
      all_map IsRefAlike (ref_row e.route.name) e.route.refs
      (all_members (λ (r : Referent). list_any (same_name r.name) keys.refs ≡ same_name e.route.name route) e.route.refs
      (λ r m. any_of (same_name r.name) r.name keys.refs (In-map (λ (x : Referent). x.name) r e.route.refs m) (same_itself r.name) ∙ sym own))

  other_refs : AllByRecursion (λ (o : RouteRow). AllByRecursion IsRefAlike (refs_of o)) others
  other_refs =
      all_both (λ (o : RouteRow). same_name o.route.name route ≡ false) (λ (o : RouteRow). AllByRecursion (λ (r : Referent). list_any (same_name r.name) keys.refs ≡ false) o.route.refs) (λ (o : RouteRow). AllByRecursion IsRefAlike (refs_of o))
      (λ o h k. all_map IsRefAlike (ref_row o.route.name) o.route.refs
      (all_weaker (λ (r : Referent). list_any (same_name r.name) keys.refs ≡ false) (λ (r : Referent). list_any (same_name r.name) keys.refs ≡ same_name o.route.name route) (λ r n. n ∙ sym h) o.route.refs k))
      others apart (gone_elsewhere e others routes keys.refs same once (own_names e))

  refs_alike : AllByRecursion IsRefAlike (flat_map refs_of routes)
  refs_alike = all-flat_map IsRefAlike refs_of routes (all_permuted (λ (o : RouteRow). AllByRecursion IsRefAlike (refs_of o)) (e ∷ others) routes (IsPermutation-sym _ _ same) (own_refs, other_refs))

  -- It has the key of a span that goes where it is on the route.
  abbrev IsSpanAlike : SpanRow → Type 0
  IsSpanAlike r = list_any (λ s. has_key_of route s r) keys.spans ≡ same_name r.route route

  own_spans : AllByRecursion IsSpanAlike (spans_of e)
  own_spans =
      all_map IsSpanAlike (span_row e.route.name) e.spans
      (all_members (λ (s : Span). list_any (λ g. has_key_of route g (span_row e.route.name s)) e.spans ≡ same_name e.route.name route) e.spans
      (λ s m. any_of (λ g. has_key_of route g (span_row e.route.name s)) s e.spans m (subst (λ n. has_key_of n s (span_row e.route.name s) ≡ true) named (key_itself e.route.name s)) ∙ sym own))

  other_spans : AllByRecursion (λ (o : RouteRow). AllByRecursion IsSpanAlike (spans_of o)) others
  other_spans =
      all_weaker (λ (o : RouteRow). same_name o.route.name route ≡ false) (λ (o : RouteRow). AllByRecursion IsSpanAlike (spans_of o))
      (λ o h. all-map IsSpanAlike (span_row o.route.name) (λ s. other_keys route e.spans (span_row o.route.name s) h ∙ sym h) o.spans) others apart

  spans_alike : AllByRecursion IsSpanAlike (flat_map spans_of routes)
  spans_alike = all-flat_map IsSpanAlike spans_of routes (all_permuted (λ (o : RouteRow). AllByRecursion IsSpanAlike (spans_of o)) (e ∷ others) routes (IsPermutation-sym _ _ same) (own_spans, other_spans))

  refs_left : flat_map refs_of others ≡ filter (λ (r : RefRow). not (list_any (same_name r.name) keys.refs)) (flat_map refs_of routes)
  refs_left =
      sym (filter-flat_map (λ (r : RefRow). not (same_name r.route route)) (λ o. not (is_named route o)) refs_of (λ o. all-map (λ (r : RefRow). not (same_name r.route route) ≡ not (is_named route o)) (ref_row o.route.name) (λ r. refl) o.route.refs) routes)
      ∙ sym (filter_alike (λ (r : RefRow). not (list_any (same_name r.name) keys.refs)) (λ (r : RefRow). not (same_name r.route route)) (flat_map refs_of routes)
      (all_weaker IsRefAlike (λ (r : RefRow). not (list_any (same_name r.name) keys.refs) ≡ not (same_name r.route route)) (λ r h. ap not h) (flat_map refs_of routes) refs_alike))

  spans_left : flat_map spans_of others ≡ filter (λ (r : SpanRow). not (list_any (λ s. has_key_of route s r) keys.spans)) (flat_map spans_of routes)
  spans_left =
      sym (filter-flat_map (λ (r : SpanRow). not (same_name r.route route)) (λ o. not (is_named route o)) spans_of (λ o. all-map (λ (r : SpanRow). not (same_name r.route route) ≡ not (is_named route o)) (span_row o.route.name) (λ s. refl) o.spans) routes)
      ∙ sym (filter_alike (λ (r : SpanRow). not (list_any (λ s. has_key_of route s r) keys.spans)) (λ (r : SpanRow). not (same_name r.route route)) (flat_map spans_of routes)
      (all_weaker IsSpanAlike (λ (r : SpanRow). not (list_any (λ s. has_key_of route s r) keys.spans) ≡ not (same_name r.route route)) (λ r h. ap not h) (flat_map spans_of routes) spans_alike))

  dropped : (pieces : Name → List Piece) (i : Image) → AreSame (encoded pieces (over i others)) (without_route route keys (encoded pieces (over i routes)))
  dropped pieces i = record {
    version = IsPermutation-refl _;
    link = IsPermutation-refl _;
    class = IsPermutation-refl _;
    asset = IsPermutation-refl _;
    piece = IsPermutation-same _ _ (sym (filter-flat_map (λ (r : PieceRow). not (same_name r.route route)) (λ o. not (is_named route o)) (pieces_of pieces) (λ o. numbered_all (λ (r : PieceRow). not (same_name r.route route) ≡ not (is_named route o)) (piece_row o.route.name) (λ k p. refl) 0 (pieces o.route.name)) routes));
    mark = IsPermutation-same _ _ (sym (filter-flat_map (λ (r : MarkRow). not (same_name r.route route)) (λ o. not (is_named route o)) marks_of (λ o. numbered_all (λ (r : MarkRow). not (same_name r.route route) ≡ not (is_named route o)) (mark_row o.route.name) (λ k m. refl) 0 o.route.marks) routes));
    ref = IsPermutation-same _ _ refs_left;
    span = IsPermutation-same _ _ spans_left;
    entered = IsPermutation-refl _;
    gone = IsPermutation-refl _;
    edit = IsPermutation-refl _;
    origin = IsPermutation-refl _;
  }

  drops : (i : Image) (t : Tables) → Encodes (over i routes) t → Encodes (over i others) (without_route route keys t)
  drops i t h =
      encodes_by (without_route route keys) (steady-without_route route keys) (over i routes) (over i others) t h h.pieces
      (all-filter (λ (r : RouteRow). ArePiecesOf r.route.course (h.pieces r.route.name)) (λ r. not (is_named route r)) routes h.are)
      (dropped h.pieces i)

pub drops_some : (route : Option Name) (keys : RouteKeys) (routes : List RouteRow) → GoesWholeIfAny route keys routes → each_two route_before routes ≡ true → each_two differ (referents routes) ≡ true → (i : Image) (t : Tables)
    → Encodes (over i routes) t → Encodes (over i (without_some route routes)) (with_some (λ name. without_route name keys) route t)
drops_some None ks routes whole order once i t h = h
drops_some (Some route) ks routes whole order once i t h =
    subst (λ k. Encodes (over i (without route routes)) (without_route route k t)) (sym whole.keys_are) (drops route whole.row routes whole.found order once i t h)
