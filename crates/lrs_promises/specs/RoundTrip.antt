-- The round trip of a position: to another linear referencing method, and back.
use Rattle.std.specs.Prelude.{◌≡◌, ℕ, false, Some, Result, Ok, Err, IsOkAnd}
use Rattle.lrs_measure.specs.Texts.{Name}
use Rattle.lrs_position.specs.Locations.{Alignment, Locates}
use Rattle.lrs_position.specs.Translations.{misses_referent}
use Rattle.lrs_position.specs.declared.expression.Expr.{Expr}
use Rattle.lrs_position.specs.declared.expression.Target.{Target}
use Rattle.lrs_machine.specs.Machine.{referent_chainage}
use Rattle.lrs_machine.specs.Register.{get}
use Rattle.lrs_machine.specs.State.{State}
use Rattle.lrs_report_answers.specs.declared.fault.AskFault.{AskFault}
use Rattle.lrs_promises.specs.declared.translation.Trip.{Trip}

-- The position on a route of the state is translated to an expression that locates the same chainage, and that one back to what was entered.
abbrev pub ComesBack : State → Name → Expr → Target → Result Trip AskFault → Type 0
ComesBack s route entered target result = (a : Alignment) (x : ℕ × ℕ) → get s.routes route ≡ Some a → Locates a (referent_chainage s a) entered x
    → misses_referent (referent_chainage s a) target ≡ false → IsOkAnd result (λ trip. Locates a (referent_chainage s a) trip.there x × (trip.back ≡ entered))

-- the two expressions of a trip, or why it is not translated back
abbrev pub IsTripOf : Expr → Result Expr AskFault → Result Trip AskFault → Type 0
IsTripOf there (Ok back) result = result ≡ Ok (record { there = there; back = back })
IsTripOf there (Err fault) result = result ≡ Err fault
