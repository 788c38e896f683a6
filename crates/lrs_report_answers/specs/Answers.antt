-- What is asked of an inventory, and what is answered, in the words of the state that its image stands for.
use Rattle.std.specs.Prelude.{◌≡◌, ℕ, Bool, codes, if◌then◌else◌, length, Option, None, Some, Result, Ok, Err, MatchOption, MatchResult, slice_get}
use Rattle.std.specs.List.{find}
use Rattle.lrs_measure.specs.Texts.{Name}
use Rattle.lrs_position.specs.declared.expression.Expr.{Expr}
use Rattle.lrs_position.specs.declared.location.PlaceFault.{PlaceFault}
use Rattle.lrs_position.specs.Locations.{Alignment, located_or_fault, cell}
use Rattle.lrs_machine.specs.declared.image.Image.{Image}
use Rattle.lrs_machine.specs.declared.image.RouteRow.{RouteRow}
use Rattle.lrs_machine.specs.declared.absence.Missing.{Missing as Absence}
use Rattle.lrs_machine.specs.declared.absence.Missing.TheVariants.{Route, Asset}
use Rattle.lrs_machine.specs.Lines.{Text}
use Rattle.lrs_machine.specs.Machine.{referent_chainage}
use Rattle.lrs_machine.specs.Readings.{hits_on}
use Rattle.lrs_machine.specs.Register.{get}
use Rattle.lrs_machine.specs.State.{State}
use Rattle.lrs_image.specs.Change.{is_named}
use Rattle.lrs_report_answers.specs.declared.fault.AskFault.{AskFault}
use Rattle.lrs_report_answers.specs.declared.fault.AskFault.TheVariants.{Missing, Place, Memory}
use Rattle.lrs_report_answers.specs.declared.hits.AtAnswer.{AtAnswer}

-- whether a route runs along a link or against it
abbrev pub direction_text : Bool → Text
direction_text forward = if forward then codes "+" else codes "-"

-- the route with what lies on it is the image's route of its name
abbrev pub IsRouteIn : Image → RouteRow → Type 0
IsRouteIn i e = find (is_named e.route.name) i.routes ≡ Some e

-- no route has the name, and no asset the number
abbrev pub route_missing : AskFault
route_missing = Missing Route

abbrev pub asset_missing : AskFault
asset_missing = Missing Asset

-- what is named first and is not there refuses the question; else this passes
abbrev pub UnlessMissing : {A : Type 0} → Option Absence → (Result A AskFault → Type 0) → Result A AskFault → Type 0
UnlessMissing None Passes result = Passes result
UnlessMissing (Some what) Passes result = result ≡ Err (Missing what)

-- what is answered passes, unless memory ran out
abbrev pub UnlessMemory : {A : Type 0} → (A → Type 0) → Result A AskFault → Type 0
UnlessMemory Passes (Ok answer) = Passes answer
UnlessMemory Passes (Err fault) = fault ≡ Memory

-- the route is missing exactly where no route has the name; else what is asked of the route
abbrev pub OnRoute : {A : Type 0} → State → Name → (Alignment → Result A AskFault → Type 0) → Result A AskFault → Type 0
OnRoute s name Asked result = MatchOption (get s.routes name) (result ≡ Err route_missing) (λ a. Asked a result)

-- the fault of a position as that of a question
abbrev pub as_asked : {A : Type 0} → Result A PlaceFault → Result A AskFault
as_asked (Ok answer) = Ok answer
as_asked (Err fault) = Err (Place fault)

-- The answer is what positions answer on the route of the name, whose referents stand where the state has them.
abbrev pub AsksRoute : {A : Type 0} → State → Name → (Alignment → (Name → Option ℕ) → Result A PlaceFault → Type 0) → Result A AskFault → Type 0
AsksRoute {A} s name Answers result = OnRoute s name (λ a result. (answer : Result A PlaceFault) × Answers a (referent_chainage s a) answer × (result ≡ as_asked answer)) result

-- The millimetre in which the chainage x of a route stands: how far along the route, on which link, and who holds it.
pub record StandsAt (s : State) (a : Alignment) (x : ℕ × ℕ) (found : AtAnswer) : Type 0 where
  pub at : found.at ≡ cell (length a.course) x
  pub ground : slice_get a.course found.at ≡ Some found.ground
  pub hits : found.hits ≡ hits_on s found.ground

-- The answer is the millimetre in which a position stands on the route of the name, and who holds it, or the first fault.
abbrev pub IsAt : State → Name → Expr → Result AtAnswer AskFault → Type 0
IsAt s name e result =
    OnRoute s name (λ a result. MatchResult (located_or_fault a (referent_chainage s a) e) (λ x. UnlessMemory (StandsAt s a x) result) (λ fault. result ≡ Err (Place fault))) result
