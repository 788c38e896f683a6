-- What a plan changes of the ground that routes run over, and of where referents stand.
use Rattle.std.specs.Prelude.{◌≡◌, ◌||◌, true, false, if◌then◌else◌, List, Option, Some, None, is_some}
use Rattle.std.specs.List.{list_any, AllByRecursion}
use Rattle.lrs_inventory.specs.Prelude.{Name, same_name, Millimetre, course_of, runs_over, IsFilled, is_run_once, RouteRow}
use Rattle.lrs_position.specs.Index.Routes.{routes_over}
use Rattle.lrs_inventory.specs.declared.plan.GroundChange.{GroundChange}
use Rattle.lrs_inventory.specs.declared.plan.ReferentPlace.{ReferentPlace}
use Rattle.lrs_inventory.specs.declared.plan.ReferentPlaces.{ReferentPlaces}

-- the name of the route that runs over a millimetre
abbrev pub route_on : List RouteRow → Millimetre → Option Name
route_on = routes_over (λ e. e.route.name) (λ e. e.route.course)

-- which route runs over a millimetre after the change
abbrev pub ground_after : Option GroundChange → (Millimetre → Option Name) → Millimetre → Option Name
ground_after None on m = on m
ground_after (Some g) on m =
    if runs_over (course_of g.come) m || runs_over (course_of g.passed) m then Some g.route
    else if runs_over (course_of g.gone) m then None else on m

-- Each piece has ground; a route runs over all of what is removed and of what passes, which is other ground, and none over what is inserted, which is run over once.
pub record CanChange (g : GroundChange) (on : Millimetre → Option Name) : Type 0 where
  pub gone_filled : AllByRecursion IsFilled g.gone
  pub passed_filled : AllByRecursion IsFilled g.passed
  pub come_filled : AllByRecursion IsFilled g.come
  pub gone : (m : Millimetre) → runs_over (course_of g.gone) m ≡ true → is_some (on m) ≡ true
  pub passed : (m : Millimetre) → runs_over (course_of g.passed) m ≡ true → is_some (on m) ≡ true
  pub apart : (m : Millimetre) → runs_over (course_of g.passed) m ≡ true → runs_over (course_of g.gone) m ≡ false
  pub come : (m : Millimetre) → runs_over (course_of g.come) m ≡ true → on m ≡ None
  pub once : is_run_once (course_of g.come) ≡ true

abbrev pub CanChangeGround : Option GroundChange → (Millimetre → Option Name) → Type 0
CanChangeGround None on = Unit {0}
CanChangeGround (Some g) on = CanChange g on

-- the inserted referent stands in its millimetre
abbrev pub with_referent : Option ReferentPlace → (Name → Option Millimetre) → Name → Option Millimetre
with_referent None stands name = stands name
with_referent (Some r) stands name = if same_name name r.name then Some (r.link, r.mm) else stands name

-- ... or nowhere
abbrev pub without_referent : Option ReferentPlace → (Name → Option Millimetre) → Name → Option Millimetre
without_referent None stands name = stands name
without_referent (Some r) stands name = if same_name name r.name then None else stands name

-- the inserted one stands in its millimetre, and the removed ones stand nowhere
abbrev pub referents_after : ReferentPlaces → (Name → Option Millimetre) → Name → Option Millimetre
referents_after c stands name = if list_any (same_name name) c.gone then None else with_referent c.come stands name

-- no referent of this name stands anywhere yet
abbrev pub IsNewReferent : Option ReferentPlace → (Name → Option Millimetre) → Type 0
IsNewReferent None stands = Unit {0}
IsNewReferent (Some r) stands = stands r.name ≡ None
