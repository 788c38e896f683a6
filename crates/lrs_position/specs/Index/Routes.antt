-- The ground of routes. A route is of any type that gives its name and its course.
use Rattle.std.specs.Prelude.{◌≡◌, Bool, not, List, Option, Some, None, option_map, if◌then◌else◌}
use Rattle.std.specs.List.{find}
use Rattle.lrs_measure.specs.Lists.{each_two}
use Rattle.lrs_measure.specs.Texts.{Name}
use Rattle.lrs_element.specs.declared.link.Ground.{Ground}
use Rattle.lrs_element.specs.Course.{Millimetre, runs_over, meets}
use Rattle.lrs_position.specs.Index.Ground.{Stretches, route_over}

-- the name of the first route that runs over the millimetre
abbrev pub routes_over : {X : Type 0} → (X → Name) → (X → List Ground) → List X → Millimetre → Option Name
routes_over name course routes m = option_map name (find (λ r. runs_over (course r) m) routes)

-- no two of the routes have a millimetre in common
abbrev pub are_apart : {X : Type 0} → (X → List Ground) → List X → Bool
are_apart course routes = each_two (λ r s. not (meets (course r) (course s))) routes

-- the name, if it passes the test
abbrev pub if_passes : (Name → Bool) → Option Name → Option Name
if_passes test None = None
if_passes test (Some n) = if test n then Some n else None

-- The stretches are the ground of the routes.
pub record IsGroundOf {X : Type 0} (name : X → Name) (course : X → List Ground) (kept : Stretches) (routes : List X) : Type 0 where
  pub at : (m : Millimetre) → route_over kept m ≡ routes_over name course routes m
