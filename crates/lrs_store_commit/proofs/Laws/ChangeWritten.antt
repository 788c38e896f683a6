-- Rows that stand for an image stand for the changed one, after the change is written.
use Rattle.std.proofs.Common.{◌≡◌, true, false, List, ◌∷◌, length, sym, ap, subst, ◌∙◌, IsPermutation}
use Rattle.std.specs.Prelude.{Option, Some, None}
use Rattle.std.specs.List.{AllByRecursion, list_any, list_all, flat_map}
use Rattle.std.specs.Option.{option_map}
use Rattle.std.proofs.lemmas.Bool.{and_parts}
use Rattle.std.proofs.lemmas.List.Sorted.{IsPermutation-sym}
use Rattle.sqlite_keyed.proofs.ListLemmas.{all_from_test, all_unmap, all_weaker, flat_map-map}
use Rattle.lrs_measure.specs.Lists.{each_two}
use Rattle.lrs_measure.specs.OrderedLists.{insert_by, insert_some}
use Rattle.lrs_measure.specs.Texts.{Name, same_name}
use Rattle.lrs_element.specs.declared.link.Piece.{Piece}
use Rattle.lrs_position.specs.declared.route.Referent.{Referent}
use Rattle.lrs_position.specs.Routes.{are_referents}
use Rattle.lrs_events.specs.Spans.{are_rows}
use Rattle.lrs_machine.specs.declared.image.Image.{Image}
use Rattle.lrs_machine.specs.declared.image.RouteRow.{RouteRow}
use Rattle.lrs_machine.specs.Sound.{RouteReferents, RouteSpans, route_before, IsSound, spans_of, referents_of, are_spans_of, is_span, keeps_exclusive}
use Rattle.lrs_image.specs.declared.change.RouteChange.{RouteChange}
use Rattle.lrs_image.specs.Change.{apply, without, without_some, routes_after, entry_after, CanChangeRoute, GoesApart}
use Rattle.lrs_image.proofs.Becoming.{becomes}
use Rattle.lrs_image.proofs.Tables.{passes, routes_in_order}
use Rattle.lrs_store_tables.specs.Contents.Tables.{Tables}
use Rattle.lrs_store_tables.specs.Contents.EncodedImages.{Encodes}
use Rattle.lrs_store_tables.specs.RowChanges.{without_route}
use Rattle.lrs_store_tables.specs.Writes.{with_some, with_named, with_routes, with_ledgers, ArePieces, changed_course, changed_route, new_course, new_route}
use Rattle.lrs_store_tables.specs.RowLaws.{same_trans}
use Rattle.lrs_store_commit.specs.Laws.ChangeLaws.{WrittenIsEncoded}
use Rattle.lrs_store_commit.proofs.Laws.Keys.{keys_are_rows}
use Rattle.lrs_store_commit.proofs.Laws.Tabled.{over, all_permuted, encodes_over}
use Rattle.lrs_store_commit.proofs.Laws.Appended.{named, puts_named, puts_ledgers, puts_edit}
use Rattle.lrs_store_commit.proofs.Laws.Routes.{AreOthers, IsBeside, comes, changes}
use Rattle.lrs_store_commit.proofs.Laws.Apart.{differ, referents, others_apart, put_in, taken, found_is_named, gone_elsewhere, IsKept, all_that_stay, stays_first}
use Rattle.lrs_store_commit.proofs.Laws.Dropped.{drops_some}

-- What is asked of the routes of a sound image.
record AreSound (routes : List RouteRow) : Type 0 where
  order : each_two route_before routes ≡ true
  once : each_two differ (referents routes) ≡ true
  rows : AllByRecursion (λ (e : RouteRow). are_rows e.spans ≡ true) routes

goes_apart : (c : RouteChange) (dropped : Option Name) → GoesApart (Some c) dropped → IsKept dropped c.route × IsKept dropped c.name
goes_apart c None h = (tt, tt)
goes_apart c (Some name) h = h

changes_some : (changed : Option RouteChange) (dropped : Option Name) (pieces : Option (List Piece)) → ArePieces (changed_course changed) pieces → (routes : List RouteRow) → AreSound routes
    → CanChangeRoute changed routes → GoesApart changed dropped → each_two route_before (routes_after changed routes) ≡ true → (i : Image) (t : Tables)
    → Encodes (over i (without_some dropped routes)) t → Encodes (over i (without_some dropped (routes_after changed routes))) (with_some (λ c. changed_route c pieces) changed t)
changes_some None dropped pieces are routes sound can apart order i t h = h
changes_some (Some c) dropped pieces are routes sound can apart order i t h =
    let e = can.row in
    let after = entry_after c e in
    let others = without c.route routes in
    let name = found_is_named c.route routes e can.found in
    let new_name : after.route.name ≡ c.name = (becomes c e.route can.becomes.fits).name in
    let same : IsPermutation routes (e ∷ others) = taken c.route routes e can.found sound.order in
    let next : routes_after (Some c) routes ≡ insert_by route_before after others = ap (λ o. insert_some route_before (option_map (entry_after c) o) others) can.found in
    let kept = goes_apart c dropped apart in
    let stays = stays_first dropped routes e others (subst (IsKept dropped) (sym name) kept.0) same in
    let same_after : IsPermutation (routes_after (Some c) routes) (after ∷ others) = subst (λ l. IsPermutation l (after ∷ others)) (sym next) (put_in after others) in
    let stays_after = stays_first dropped (routes_after (Some c) routes) after others (subst (IsKept dropped) (sym new_name) kept.1) same_after in
    let beside : IsBeside c e (without_some dropped others) = record {
      named = name;
      fits = can.becomes.fits;
      old = all_that_stay dropped (λ (o : RouteRow). same_name o.route.name c.route ≡ false) others (subst (λ n. AreOthers n others) name (others_apart e others routes same sound.order));
      new = all_that_stay dropped (λ (o : RouteRow). same_name o.route.name c.name ≡ false) others (subst (λ n. AreOthers n others) new_name (others_apart after others (routes_after (Some c) routes) same_after order));
      refs = all_that_stay dropped (λ (o : RouteRow). AllByRecursion (λ (r : Referent). list_any (same_name r.name) c.refs.gone ≡ false) o.route.refs) others (gone_elsewhere e others routes c.refs.gone same sound.once can.becomes.named);
      spans = keys_are_rows e.spans (all_permuted (λ (r : RouteRow). are_rows r.spans ≡ true) routes (e ∷ others) same sound.rows).0 c.route c.spans_gone can.becomes.there;
      renamed = can.becomes.renamed;
    } in
    encodes_over i (after ∷ without_some dropped others) (without_some dropped (routes_after (Some c) routes)) (changed_route c pieces t) stays_after
    (changes c pieces are e i (without_some dropped others) t beside
    (encodes_over i (without_some dropped routes) (e ∷ without_some dropped others) t (IsPermutation-sym _ _ stays) h))

comes_some : (made : Option RouteRow) (pieces : Option (List Piece)) → ArePieces (new_course made) pieces → (routes : List RouteRow) → each_two route_before (insert_some route_before made routes) ≡ true → (i : Image) (t : Tables)
    → Encodes (over i routes) t → Encodes (over i (insert_some route_before made routes)) (with_some (λ e. new_route e pieces) made t)
comes_some None pieces are routes order i t h = h
comes_some (Some e) pieces are routes order i t h =
    encodes_over i (e ∷ routes) (insert_by route_before e routes) (new_route e pieces t) (put_in e routes)
    (comes e pieces are i routes t (others_apart e routes (insert_by route_before e routes) (put_in e routes) order) h)

are_sound : (i : Image) → IsSound i → AreSound i.routes
are_sound i h =
    let tests = passes i h in
    record {
      order = routes_in_order i h;
      once = ap (each_two differ) (sym (flat_map-map (λ (r : RouteReferents). r.refs) (λ (e : RouteRow). record { length = length e.route.course; refs = e.route.refs }) i.routes)) ∙ (and_parts (list_all (λ (r : RouteReferents). are_referents r.length r.refs) (referents_of i)) (each_two differ (flat_map (λ (r : RouteReferents). r.refs) (referents_of i))) tests.referents).1;
      rows = all_unmap (λ (s : RouteSpans). are_rows s.rows ≡ true) (λ (e : RouteRow). record { course = e.route.course; rows = e.spans }) i.routes
          (all_weaker (λ (s : RouteSpans). are_spans_of i.assets s ≡ true) (λ (s : RouteSpans). are_rows s.rows ≡ true) (λ s k. (and_parts (are_rows s.rows) (list_all (is_span i.assets (length s.course)) s.rows) k).0) (spans_of i)
          (all_from_test (are_spans_of i.assets) (spans_of i) (and_parts (list_all (are_spans_of i.assets) (spans_of i)) (list_all (keeps_exclusive i.links i.assets (spans_of i)) i.classes) tests.spans).0));
    }

pub written_is_encoded : WrittenIsEncoded
written_is_encoded i c t after sound can encodes written =
    let d = c.difference in
    let next = named d i in
    let e1 = puts_named d i t encodes in
    let routes_are = are_sound i sound in
    let gone = with_some (λ name. without_route name d.keys) d.dropped (with_named d t) in
    let e2 = drops_some d.dropped d.keys i.routes can.differ.whole routes_are.order routes_are.once next (with_named d t) e1 in
    let e3 = changes_some d.changed d.dropped written.changed written.changed_are i.routes routes_are can.differ.route can.differ.apart can.differ.names next gone e2 in
    let e4 = comes_some d.made written.made written.made_are (without_some d.dropped (routes_after d.changed i.routes)) (routes_in_order (apply c i) can.sound) next _ e3 in
    let e5 = puts_ledgers d (over next (insert_some route_before d.made (without_some d.dropped (routes_after d.changed i.routes)))) (with_routes d written.changed written.made (with_named d t)) e4 in
    let e6 = puts_edit c.edit _ (with_ledgers d (with_routes d written.changed written.made (with_named d t))) e5 in
    record { pieces = e6.pieces; are = e6.are; rows = same_trans _ _ _ e6.rows written.rows }
