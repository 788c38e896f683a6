-- A row of a stretch has a millimetre of it.
use Rattle.std.proofs.Common.{◌≡◌, ℕ, ◌<◌, ◌≤◌, max, min, true, Option, Some, None, arith}
use Rattle.std.proofs.lemmas.Bool.{lt-ltb, ltb-true}
use Rattle.lrs_events.specs.declared.span.Span.{Span}
use Rattle.lrs_report_lists.specs.Laws.{IsOfBoth, RowsHaveAMillimetre}
use Rattle.lrs_report_lists.specs.WantedRows.{earlier, has_between, later}

one_of : (from to : Option ℕ) (r : Span) → has_between from to r ≡ true → (j : ℕ) × IsOfBoth from to r j
one_of None None r h = let l : r.from < r.to = ltb-true (later None r.from) (earlier None r.to) h in (r.from, record { start = omega arith; end = omega arith; behind = tt; before = tt })
one_of None (Some to) r h = let l : r.from < min to r.to = ltb-true (later None r.from) (earlier (Some to) r.to) h in (r.from, record { start = omega arith; end = omega arith; behind = tt; before = omega arith })
one_of (Some from) None r h = let l : max from r.from < r.to = ltb-true (later (Some from) r.from) (earlier None r.to) h in (max from r.from, record { start = omega arith; end = omega arith; behind = omega arith; before = tt })
one_of (Some from) (Some to) r h =
    let l : max from r.from < min to r.to = ltb-true (later (Some from) r.from) (earlier (Some to) r.to) h in (max from r.from, record { start = omega arith; end = omega arith; behind = omega arith; before = omega arith })

passes : (from to : Option ℕ) (r : Span) (j : ℕ) → IsOfBoth from to r j → has_between from to r ≡ true
passes None None r j m = let a : r.from ≤ j = m.start in let b : j < r.to = m.end in lt-ltb r.from r.to (omega arith)
passes None (Some to) r j m = let a : r.from ≤ j = m.start in let b : j < r.to = m.end in let d : j < to = m.before in lt-ltb r.from (min to r.to) (omega arith)
passes (Some from) None r j m = let a : r.from ≤ j = m.start in let b : j < r.to = m.end in let c : from ≤ j = m.behind in lt-ltb (max from r.from) r.to (omega arith)
passes (Some from) (Some to) r j m =
    let a : r.from ≤ j = m.start in let b : j < r.to = m.end in let c : from ≤ j = m.behind in let d : j < to = m.before in lt-ltb (max from r.from) (min to r.to) (omega arith)

pub rows_have_one : RowsHaveAMillimetre
rows_have_one from to r = (one_of from to r, λ m. passes from to r m.0 m.1)
