-- The rows of each asset on each route are its canonical rows, and so a function of courses and of what is held.
use Rattle.std.proofs.Common.{◌≡◌, ℕ, zero, suc, Bool, true, false, cond, ◌⊎◌, inl, inr, List, [], ◌∷◌, map, filter, Some, refl, sym, ap, ◌∙◌}
use Rattle.std.specs.Prelude.{◌&&◌, ◌||◌, nat_eq, slice_get}
use Rattle.std.specs.List.{filter_map}
use Rattle.std.specs.Cmp.Lexicographic.{bytes_decides}
use Rattle.std.proofs.lemmas.Bool.{both_ways, and_parts, and_from, cases_Bool, eqb-true, eq-eqb}
use Rattle.lrs_measure.specs.Runs.{Run, runs_of, same_option}
use Rattle.lrs_measure.specs.Texts.{Name, same_name}
use Rattle.lrs_measure.specs.Lists.{In}
use Rattle.lrs_element.specs.declared.link.Ground.{Ground}
use Rattle.lrs_events.specs.declared.side.Side.{Side}
use Rattle.lrs_events.specs.declared.side.LinkSide.TheVariants.{Left, Right}
use Rattle.lrs_events.specs.declared.span.Span.{Span}
use Rattle.lrs_events.specs.Canonical.{side_of, side_held, held_run, canonical_rows}
use Rattle.lrs_events.specs.Spans.{same_side, holds_by_spans}
use Rattle.lrs_events.specs.Row.RunLaws.{row_run, rows_of_asset}
use Rattle.lrs_events.proofs.Row.RunLaws.{rows_are_canonical}
use Rattle.lrs_machine.specs.declared.image.RouteRow.{RouteRow}
use Rattle.lrs_machine.specs.declared.image.Image.{Image}
use Rattle.lrs_machine.specs.Image.{state_of}
use Rattle.lrs_machine.specs.Sound.{IsSound}
use Rattle.lrs_image.proofs.Tables.{routes_in_order}
use Rattle.lrs_image_laws.proofs.Holding.{alone, held_at, rows_held_at}
use Rattle.lrs_promises.proofs.DeskLaws.OwnRows.{its_rows, ends}
use Rattle.lrs_promises.specs.DeskLaws.InventoryRows.{Row, row_on, rows_of_inventory, courses_in, rows_of_each, run_of_row, canonical, same_row, has_row, RowsAreTheRuns, SameRowsOfEach, SameRows}
use Rattle.lrs_promises.proofs.DeskLaws.Routes.{none_there, only_there, course_is, IsNamed, NoneNamed, which}

-- what is read at each entry of a course
map-entries : {X : Type 0} (f h : Ground → X) (c : List Ground) → ((j : ℕ) (g : Ground) → slice_get c j ≡ Some g → f g ≡ h g) → map f c ≡ map h c
map-entries f h [] same = refl
map-entries f h (g ∷ gs) same = λ i. same zero g refl i ∷ map-entries f h gs (λ j x e. same (suc j) x e) i

runs_on : (name : Name) (rows : List Span) → map run_of_row (map (row_on name) rows) ≡ map row_run rows
runs_on name [] = refl
runs_on name (q ∷ qs) = ap (λ l. row_run q ∷ l) (runs_on name qs)

module _ (i : Image) (s : IsSound i) (asset : ℕ) where
  -- what the state holds on the route is what its rows hold
  held_alike : (e : RouteRow) → In e i.routes → map (side_held (holds_by_spans e.route.course e.spans asset)) e.route.course ≡ map (side_held ((state_of i).holds asset)) e.route.course
  held_alike e m =
      let it = alone i e s m in
      map-entries (side_held (holds_by_spans e.route.course e.spans asset)) (side_held ((state_of i).holds asset)) e.route.course (λ j g is k. side_of
      ((rows_held_at e.route.course e.spans j g Left it.once is asset ∙ sym (held_at i e s m j g Left is asset)) k)
      ((rows_held_at e.route.course e.spans j g Right it.once is asset ∙ sym (held_at i e s m j g Right is asset)) k))

  on_route : (e : RouteRow) → In e i.routes → map row_run (rows_of_asset asset e.spans) ≡ canonical_rows ((state_of i).holds asset) e.route.course
  on_route e m =
      rows_are_canonical e.route.course e.spans (alone i e s m).once (its_rows i s e m) (ends i s e m) asset
      ∙ ap (λ sides. filter_map held_run (runs_of (same_option same_side) sides)) (held_alike e m)

  runs_are : (route : Name) → map run_of_row (rows_of_each route asset (rows_of_inventory i)) ≡ canonical (courses_in (state_of i)) (state_of i).holds route asset
  runs_are route = by (which i s route)
    where
      by : ((e : RouteRow) × IsNamed i s route e) ⊎ NoneNamed i s route → map run_of_row (rows_of_each route asset (rows_of_inventory i)) ≡ canonical (courses_in (state_of i)) (state_of i).holds route asset
      by (inr k) =
          ap (map run_of_row) (none_there route asset i.routes k.none)
          ∙ sym (ap (canonical_rows ((state_of i).holds asset)) k.course)
      by (inl (e, k)) =
          ap (map run_of_row) (only_there route asset e i.routes (routes_in_order i s) k.there ((bytes_decides e.route.name route).1 k.name))
          ∙ runs_on e.route.name (rows_of_asset asset e.spans)
          ∙ on_route e k.there
          ∙ sym (ap (canonical_rows ((state_of i).holds asset)) (ap (courses_in (state_of i)) (sym k.name) ∙ course_is i s e k.there))

pub rows_are_the_runs : RowsAreTheRuns
rows_are_the_runs i s route asset = runs_are i s asset route

-- ---- the rows of each asset on each route are told by their runs

abbrev row_of_run : Name → ℕ → Run Side → Row
row_of_run route asset u = record { route = route; asset = asset; from = u.from; to = u.to; side = u.value }

module _ (route : Name) (asset : ℕ) where
  abbrev is_each : Row → Bool
  is_each r = same_name r.route route && nat_eq r.asset asset

  told : (rows : List Row) → filter is_each rows ≡ map (row_of_run route asset) (map run_of_row (filter is_each rows))
  told [] = refl
  told (r ∷ rs) = by (is_each r) refl (told rs)
    where
      by : (b : Bool) → is_each r ≡ b → filter is_each rs ≡ map (row_of_run route asset) (map run_of_row (filter is_each rs)) → cond b (r ∷ filter is_each rs) (filter is_each rs) ≡ map (row_of_run route asset) (map run_of_row (cond b (r ∷ filter is_each rs) (filter is_each rs)))
      by false h rest = rest
      by true h rest =
          let both = and_parts (same_name r.route route) (nat_eq r.asset asset) h in
          let name = (bytes_decides r.route route).0 both.0 in
          let number = eqb-true r.asset asset both.1 in
          λ i. (record { route = name i; asset = number i; from = r.from; to = r.to; side = r.side }) ∷ rest i

pub rows_of_each_are_one : SameRowsOfEach
rows_of_each_are_one i j s t alike route asset =
    told route asset (rows_of_inventory i)
    ∙ ap (map (row_of_run route asset)) (
    rows_are_the_runs i s route asset
    ∙ (λ k. canonical_rows (λ p. alike.holds asset p k) (alike.courses route k))
    ∙ sym (rows_are_the_runs j t route asset))
    ∙ sym (told route asset (rows_of_inventory j))

-- ---- as sets

module _ (r : Row) where
  abbrev alike_row : Row → Bool
  alike_row x = same_name x.route r.route && nat_eq x.asset r.asset

  of_it : (x : Row) → same_row r x ≡ true → alike_row x ≡ true
  of_it x h =
      let a = and_parts (same_name r.route x.route && nat_eq r.asset x.asset && nat_eq r.from x.from && nat_eq r.to x.to) (same_side r.side x.side) h in
      let b = and_parts (same_name r.route x.route && nat_eq r.asset x.asset && nat_eq r.from x.from) (nat_eq r.to x.to) a.0 in
      let c = and_parts (same_name r.route x.route && nat_eq r.asset x.asset) (nat_eq r.from x.from) b.0 in
      let d = and_parts (same_name r.route x.route) (nat_eq r.asset x.asset) c.0 in
      and_from (same_name x.route r.route) (nat_eq x.asset r.asset)
      ((bytes_decides x.route r.route).1 (sym ((bytes_decides r.route x.route).0 d.0)))
      (eq-eqb x.asset r.asset (sym (eqb-true r.asset x.asset d.1)))

  pub among_its : (rows : List Row) → has_row rows r ≡ has_row (filter alike_row rows) r
  among_its [] = refl
  among_its (x ∷ xs) = by (alike_row x) refl (among_its xs)
    where
      by : (b : Bool) → alike_row x ≡ b → has_row xs r ≡ has_row (filter alike_row xs) r → (same_row r x || has_row xs r) ≡ has_row (cond b (x ∷ filter alike_row xs) (filter alike_row xs)) r
      by true h rest = ap (λ c. same_row r x || c) rest
      by false h rest = off (cases_Bool (same_row r x)) ∙ rest
        where
          off : (same_row r x ≡ true) ⊎ (same_row r x ≡ false) → (same_row r x || has_row xs r) ≡ has_row xs r
          off (inl k) = absurd (both_ways (alike_row x) h (of_it x k))
          off (inr k) = ap (λ c. c || has_row xs r) k

pub rows_are_one : SameRows
rows_are_one i j s t alike r =
    among_its r (rows_of_inventory i)
    ∙ ap (λ rows. has_row rows r) (rows_of_each_are_one i j s t alike r.route r.asset)
    ∙ sym (among_its r (rows_of_inventory j))
