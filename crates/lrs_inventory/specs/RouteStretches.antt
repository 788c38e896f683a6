-- Where positions are on a route of an inventory, and what lies there.
use Rattle.std.specs.Prelude.{unsigned_abs, ⊤, ◌≡◌, ℕ, ◌≤◌, Some, Result, Ok, Err}
use Rattle.std.specs.List.{find}
use Rattle.lrs_inventory.specs.Prelude.{Alignment, Cause, Image, RouteRow, ◌>>=◌, EventStretch, State, is_named}
use Rattle.lrs_measure.specs.Fraction.{Fraction}
use Rattle.lrs_position.specs.declared.expression.Expr.{Expr}
use Rattle.lrs_position.specs.declared.location.PlaceFault.{PlaceFault}
use Rattle.lrs_position.specs.declared.location.PlaceFault.TheVariants as fault
use Rattle.lrs_position.specs.Locations.{snap, cell}
use Rattle.lrs_machine.specs.declared.answer.Cause.TheVariants as cause
use Rattle.lrs_machine.specs.Machine.{located_chainage}
use Rattle.lrs_inventory.specs.declared.plan.Stop.{Stop}
use Rattle.lrs_inventory.specs.declared.plan.Stop.TheVariants.{Refused, Memory}

-- the route with what lies on it is the inventory's route of its name
abbrev pub IsRouteIn : Image → RouteRow → Type 0
IsRouteIn i e = find (is_named e.route.name) i.routes ≡ Some e

-- the cause that a fault of a position is; one that is entered is never too fine
abbrev pub cause_of : PlaceFault → Cause
cause_of (fault.NoRef) = cause.NoRef
cause_of (fault.TooFine) = cause.OffRoute
cause_of (fault.OffRoute) = cause.OffRoute

-- The ground machine locates a chainage that has the same whole millimetres as q.
pub record IsLocatedAt (s : State) (a : Alignment) (e : Expr) (q : Fraction) : Type 0 where
  pub chainage : ℕ × ℕ
  pub located : located_chainage s a e ≡ Ok chainage
  pub snapped : snap chainage ≡ snap (unsigned_abs q.num, q.den)
  pub stands : (len : ℕ) → cell len chainage ≡ cell len (unsigned_abs q.num, q.den)

-- ... or refuses the position for this cause
abbrev pub LocatesAs : State → Alignment → Expr → Result Fraction Stop → Type 0
LocatesAs s a e (Ok q) = IsLocatedAt s a e q
LocatesAs s a e (Err (Refused c)) = located_chainage s a e ≡ Err c
LocatesAs s a e (Err Memory) = ⊤

-- the millimetre that a position stands in
abbrev pub located_cell : State → Alignment → ℕ → Expr → Result ℕ Cause
located_cell s a len e = do
  x ← located_chainage s a e
  Ok (cell len x)

-- the whole millimetre that a position goes to where a stretch begins or ends
abbrev pub located_end : State → Alignment → Expr → Result ℕ Cause
located_end s a e = do
  x ← located_chainage s a e
  Ok (snap x)

-- the extent ends on a route of this length
abbrev pub EndsBy : ℕ → EventStretch → Type 0
EndsBy len e = e.to ≤ len
