-- The plans that verbs of routes make of the courses and marks that passed their checks.
use Rattle.std.specs.Prelude.{List, [], Some, None}
use Rattle.lrs_inventory.specs.Prelude.{Name, Piece, Mark, RouteChange, RouteKeys, Difference, rerouting}
use Rattle.lrs_image_laws.specs.Differences.{no_change}
use Rattle.lrs_inventory.specs.declared.plan.Plan.{Plan}
use Rattle.lrs_verbs.specs.declared.routes.split.Halves.{Halves}
use Rattle.lrs_inventory.specs.Plans.{plan_of}

-- the plan by which a route gets these marks
abbrev pub recalibrated : Name → List Mark → Plan
recalibrated route marks = plan_of (rerouting (Some (record (no_change route) { marks = Some marks })) None None)

-- the plan by which a route becomes two, and the ground of its rear, these pieces, passes to the new one
abbrev pub split_plan : Name → Halves → (ground : List Piece) → Plan
split_plan name h ground = record (plan_of (rerouting (Some h.front) None (Some h.rear))) { ground = Some (record { route = name; gone = []; passed = ground; come = [] }) }

-- the difference by which a route changes and another goes with what lies on it
abbrev pub joining : RouteChange → Name → RouteKeys → Difference
joining c second keys = record (rerouting (Some c) (Some second) None) { keys = keys }

-- the plan by which a route changes and the second goes with what lies on it, and its ground, these pieces, passes to the first
abbrev pub join_plan : Name → RouteKeys → RouteChange → (ground : List Piece) → Plan
join_plan second keys c ground = record (plan_of (joining c second keys)) { ground = Some (record { route = c.name; gone = []; passed = ground; come = [] }) }
