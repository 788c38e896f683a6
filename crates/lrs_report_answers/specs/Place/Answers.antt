-- What is at a place: the ground there, who holds it, and the place by every method.
use Rattle.std.specs.Prelude.{◌≡◌, ℕ, pos, List, ◌∷◌, map, Result, Err, MatchResult}
use Rattle.std.specs.List.{AllZip}
use Rattle.lrs_position.specs.declared.expression.Expr.{Expr}
use Rattle.lrs_position.specs.declared.expression.Target.{Target}
use Rattle.lrs_position.specs.declared.expression.Target.TheVariants as target
use Rattle.lrs_position.specs.declared.route.Referent.{Referent}
use Rattle.lrs_position.specs.declared.route.Route.{Route}
use Rattle.lrs_position.specs.Readings.{whole}
use Rattle.lrs_position.specs.Translations.{alignment_of, referent_at, Expresses}
use Rattle.lrs_machine.specs.declared.image.Image.{Image}
use Rattle.lrs_machine.specs.declared.image.RouteRow.{RouteRow}
use Rattle.lrs_machine.specs.Image.{state_of}
use Rattle.lrs_report_answers.specs.Answers.{StandsAt, UnlessMemory}
use Rattle.lrs_report_answers.specs.declared.places.answer.Whereabouts.{Whereabouts}
use Rattle.lrs_report_answers.specs.declared.fault.AskFault.{AskFault}
use Rattle.lrs_machine.specs.declared.question.AskedPlace.{AskedPlace}
use Rattle.lrs_report_answers.specs.Place.Places.{place_of}

-- what a place is expressed by: each method, the relative one from each referent of the route in their order
abbrev pub targets_of : List Referent → List Target
targets_of refs = target.Abs ∷ target.Int ∷ map (λ r. target.Rel r.name) refs

-- The position is by the target's method, counts from its referent, is in lowest terms, and locates this chainage of the route.
abbrev pub IsPosition : Route → ℕ → Target → Expr → Type 0
IsPosition route chainage = Expresses (alignment_of route) (referent_at route.refs) (whole (pos chainage))

-- What is at a chainage of a route: the millimetre there (at the route's end the last one) and who holds it, and the chainage by each target.
pub record IsThere (i : Image) (e : RouteRow) (chainage : ℕ) (w : Whereabouts) : Type 0 where
  pub on : w.route ≡ e.route.name
  pub stands : StandsAt (state_of i) (alignment_of e.route) (chainage, 1) w.found
  pub by_targets : AllZip (IsPosition e.route chainage) (targets_of e.route.refs) w.positions

-- The answer is what is at the place of a spot, or why the spot has no place.
abbrev pub IsWhereabouts : Image → AskedPlace → Result Whereabouts AskFault → Type 0
IsWhereabouts i spot result = MatchResult (place_of i spot) (λ place. UnlessMemory (IsThere i place.0 place.1) result) (λ fault. result ≡ Err fault)
