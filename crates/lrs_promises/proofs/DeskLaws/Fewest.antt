-- No list of rows that stands for the same is shorter.
use Rattle.std.proofs.Common.{◌≡◌, ◌≤◌, Bool, true, false, cond, inl, inr, List, [], ◌∷◌, filter, length, refl, sym, ap, ◌∙◌, arith}
use Rattle.std.specs.Prelude.{◌&&◌, not, nat_eq}
use Rattle.std.specs.List.{list_any, list_all, flat_map}
use Rattle.std.specs.Cmp.Lexicographic.{bytes_decides}
use Rattle.std.proofs.lemmas.Bool.{and_parts, and_from, eqb-true, eq-eqb}
use Rattle.std.proofs.lemmas.List.{length-append, length-map}
use Rattle.std.proofs.lemmas.List.Filters.{length-filter_both}
use Rattle.lrs_measure.specs.Lists.{In, each_two}
use Rattle.lrs_measure.specs.Texts.{Name, same_name}
use Rattle.lrs_measure.proofs.Members.{any_found, any_of, all_at, all_of, map_found, flat_map_found, In-filter}
use Rattle.lrs_events.specs.declared.span.Span.{Span}
use Rattle.lrs_events.specs.Places.{lies_on}
use Rattle.lrs_events.specs.Row.Members as members
use Rattle.lrs_events.specs.Row.RunLaws.{HoldSame}
use Rattle.lrs_events.proofs.Row.FewestHeld.{held_rows_are_fewest}
use Rattle.lrs_machine.specs.declared.image.RouteRow.{RouteRow}
use Rattle.lrs_machine.specs.declared.image.Image.{Image}
use Rattle.lrs_machine.specs.Image.{state_of}
use Rattle.lrs_machine.specs.Sound.{IsSound, route_before}
use Rattle.lrs_image.proofs.Tables.{routes_in_order}
use Rattle.lrs_image_laws.proofs.Holding.{alone}
use Rattle.lrs_image_laws.proofs.Naming.{earlier_name}
use Rattle.lrs_promises.proofs.DeskLaws.OwnRows.{own, its_rows, ends}
use Rattle.lrs_promises.specs.DeskLaws.InventoryRows.{Row, row_on, rows_of_inventory, Tells, begin_alike, NoneIsShorter}
use Rattle.lrs_promises.proofs.DeskLaws.Routes.{named}
use Rattle.lrs_promises.proofs.DeskLaws.Under.{is_named, span_within, spans_named, ends_named, held_there, off_there}

-- ---- one route

module _ (i : Image) (rows : List Row) (s : IsSound i) (tells : Tells rows (state_of i)) where
  abbrev others : RouteRow → List Span
  others e = spans_named e.route.name (length e.route.course) rows

  hold_same : (e : RouteRow) → In e i.routes → HoldSame e.route.course e.spans (others e)
  hold_same e m a p = own i s e m a p ∙ ap (λ b. b && lies_on e.route.course p) (sym (tells.stands a p)) ∙ held_there i s e m rows a p

  on_route : (e : RouteRow) → In e i.routes → members.IsFewest e.spans (others e)
  on_route e m =
      held_rows_are_fewest e.route.course e.spans (others e) (alone i e s m).once (its_rows i s e m) (ends i s e m)
      (off_there i s e m rows tells.off) (ends_named e.route.name (length e.route.course) rows) (hold_same e m)

  few_on : (e : RouteRow) → In e i.routes → length e.spans ≤ length (filter (is_named e.route.name) rows)
  few_on e m =
      let few = (on_route e m).fewest in
      let all = length-map (filter (is_named e.route.name) rows) (span_within (length e.route.course)) in
      omega (arith, few, all)

  begins : (r : Row) → In r (rows_of_inventory i) → list_any (begin_alike r) rows ≡ true
  begins r m =
      let e = flat_map_found named r i.routes m in
      let q = map_found (row_on e.0.route.name) r e.0.spans e.2 in
      let y = any_found (λ (x : Span). nat_eq x.asset q.0.asset && nat_eq x.from q.0.from) (others e.0)
      (all_at (members.begins_at (others e.0)) q.0 e.0.spans (on_route e.0 e.1).starts q.1) in
      let z = map_found (span_within (length e.0.route.course)) y.0 (filter (is_named e.0.route.name) rows) y.1 in
      let k = In-filter (is_named e.0.route.name) z.0 rows z.1 in
      let at = and_parts (nat_eq y.0.asset q.0.asset) (nat_eq y.0.from q.0.from) y.2 in
      let asset : q.0.asset ≡ z.0.asset = sym (eqb-true y.0.asset q.0.asset at.0) ∙ ap (λ (x : Span). x.asset) z.2 in
      let from : q.0.from ≡ z.0.from = sym (eqb-true y.0.from q.0.from at.1) ∙ ap (λ (x : Span). x.from) z.2 in
      let name : e.0.route.name ≡ z.0.route = sym ((bytes_decides z.0.route e.0.route.name).0 k.1) in
      any_of (begin_alike r) z.0 rows k.0 (ap (λ (x : Row). begin_alike x z.0) q.2
      ∙ and_from (same_name e.0.route.name z.0.route && nat_eq q.0.asset z.0.asset) (nat_eq q.0.from z.0.from)
      (and_from (same_name e.0.route.name z.0.route) (nat_eq q.0.asset z.0.asset) ((bytes_decides e.0.route.name z.0.route).1 name) (eq-eqb q.0.asset z.0.asset asset))
      (eq-eqb q.0.from z.0.from from))

-- ---- all routes

-- rows of one name are not among those that are not of another
still : (m n : Name) (rows : List Row) → same_name m n ≡ false → filter (is_named n) (filter (λ r. not (is_named m r)) rows) ≡ filter (is_named n) rows
still m n [] h = refl
still m n (r ∷ rs) h = by (is_named m r) refl (still m n rs h)
  where
    by : (b : Bool) → is_named m r ≡ b → filter (is_named n) (filter (λ q. not (is_named m q)) rs) ≡ filter (is_named n) rs
        → filter (is_named n) (cond (not b) (r ∷ filter (λ q. not (is_named m q)) rs) (filter (λ q. not (is_named m q)) rs)) ≡ cond (is_named n r) (r ∷ filter (is_named n) rs) (filter (is_named n) rs)
    by false k rest = λ j. cond (is_named n r) (r ∷ rest j) (rest j)
    by true k rest =
        let other : is_named n r ≡ false = ap (λ x. same_name x n) ((bytes_decides r.route m).0 k) ∙ h in
        rest ∙ sym (ap (λ b. cond b (r ∷ filter (is_named n) rs) (filter (is_named n) rs)) other)

pub count : (es : List RouteRow) (rows : List Row) → each_two route_before es ≡ true
    → ((e : RouteRow) → In e es → length e.spans ≤ length (filter (is_named e.route.name) rows)) → length (flat_map named es) ≤ length rows
count [] rows h few = omega arith
count (e ∷ es) rows h few =
    let both = and_parts (list_all (route_before e) es) (each_two route_before es) h in
    let rest = filter (λ r. not (is_named e.route.name r)) rows in
    let later = count es rest both.1 (λ x m.
    let n = few x (inr m) in
    let is = ap length (still e.route.name x.route.name rows (earlier_name e.route.name x.route.name (all_at (route_before e) x es both.0 m))) in
    omega (arith, n, is)) in
    let all = length-filter_both (is_named e.route.name) (λ r. not (is_named e.route.name r)) (λ r. refl) rows in
    let its = few e (inl refl) in
    let sum = length-append (named e) (flat_map named es) in
    let own = length-map e.spans (row_on e.route.name) in
    omega (arith, later, all, its, sum, own)

pub none_is_shorter : NoneIsShorter
none_is_shorter i rows s tells = record {
  starts = all_of (λ r. list_any (begin_alike r) rows) (rows_of_inventory i) (begins i rows s tells);
  fewest = count i.routes rows (routes_in_order i s) (few_on i rows s tells);
}
