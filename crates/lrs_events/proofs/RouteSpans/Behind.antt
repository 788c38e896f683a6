-- The rows that end behind a place are those with a millimetre from there on.
use Rattle.std.proofs.Common.{◌≡◌, ℕ, ◌<◌, ◌≤◌, Bool, true, false, ◌&&◌, cond, nat_lt, nat_le, List, [], ◌∷◌, filter, refl, ap, arith}
use Rattle.std.specs.List.{list_all}
use Rattle.std.proofs.lemmas.Bool.{and_parts, ltb-true, leb-true, lt-ltb}
use Rattle.lrs_measure.specs.Lists.{each_two}
use Rattle.lrs_measure.specs.Limits.{longest_route}
use Rattle.lrs_events.specs.declared.span.Span.{Span}
use Rattle.lrs_events.specs.Spans.{are_rows, is_row, span_before, are_apart}
use Rattle.lrs_events.specs.Row.Removals.{is_met}

-- a row begins before the end of the longest route
begins : (r : Span) → is_row r ≡ true → nat_lt r.from longest_route ≡ true
begins r h =
    let a = and_parts (nat_lt r.from r.to) (nat_le r.to longest_route) h in
    let x : r.from < r.to = ltb-true r.from r.to a.0 in
    let y : r.to ≤ longest_route = leb-true r.to longest_route a.1 in
    let z : r.from < longest_route = omega (arith, x, y) in
    lt-ltb r.from longest_route z

met_behind : (at : ℕ) (rows : List Span) → list_all is_row rows ≡ true → filter (is_met at longest_route) rows ≡ filter (λ r. nat_lt at r.to) rows
met_behind at [] h = refl
met_behind at (r ∷ rs) h =
    let a = and_parts (is_row r) (list_all is_row rs) h in
    rw (begins r a.0) (by (nat_lt at r.to) (met_behind at rs a.1))
  where
    by : (b : Bool) {X Y : List Span} → X ≡ Y → cond b (r ∷ X) X ≡ cond b (r ∷ Y) Y
    by true e = ap (λ xs. r ∷ xs) e
    by false e = e

pub behind_is : (at : ℕ) (rows : List Span) → are_rows rows ≡ true → filter (is_met at longest_route) rows ≡ filter (λ r. nat_lt at r.to) rows
behind_is at rows h =
    let a = and_parts (list_all is_row rows && each_two span_before rows) (each_two are_apart rows) h in
    met_behind at rows (and_parts (list_all is_row rows) (each_two span_before rows) a.0).0
