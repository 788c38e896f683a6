-- The plan by which a route is inserted.
use Rattle.std.specs.Prelude.{◌≡◌, List, [], Some}
use Rattle.lrs_inventory.specs.Prelude.{Name, Piece, Ground, Mark, RouteRow, no_difference}
use Rattle.lrs_inventory.specs.declared.plan.Plan.{Plan}
use Rattle.lrs_inventory.specs.Plans.{plan_of}

-- a route of this name, ground and measure line, on which nothing lies
pub record IsEntryOf (route : Name) (ground : List Ground) (line : List Mark) (e : RouteRow) : Type 0 where
  pub name : e.route.name ≡ route
  pub course : e.route.course ≡ ground
  pub marks : e.route.marks ≡ line
  pub refs : e.route.refs ≡ []
  pub spans : e.spans ≡ []

-- the plan by which this route comes, over these pieces
abbrev pub route_plan : Name → RouteRow → List Piece → Plan
route_plan name e pieces = record (plan_of (record no_difference { made = Some e })) { ground = Some (record { route = name; gone = []; passed = []; come = pieces }) }
