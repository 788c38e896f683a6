-- What another name of a route changes.
use Rattle.std.specs.Prelude.{List, [], Some, None}
use Rattle.lrs_inventory.specs.Prelude.{Name, Piece, RouteKeys, rerouting}
use Rattle.lrs_image_laws.specs.Differences.{no_change}
use Rattle.lrs_inventory.specs.declared.plan.Plan.{Plan}
use Rattle.lrs_inventory.specs.Plans.{plan_of}

-- the plan by which a route gets this name with what lies on it, and its ground, these pieces, passes to it
abbrev pub renumbered : Name → Name → RouteKeys → (ground : List Piece) → Plan
renumbered route name keys ground = record (plan_of (rerouting (Some (record (no_change route) { name = name; keys = keys })) None None)) { ground = Some (record { route = name; gone = []; passed = ground; come = [] }) }
