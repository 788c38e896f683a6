-- What a close changes.
use Rattle.std.specs.Prelude.{List, [], map, Some, None}
use Rattle.lrs_inventory.specs.Prelude.{Name, Piece, Referent, Gone, RouteKeys, Difference, no_difference}
use Rattle.lrs_inventory.specs.declared.plan.Plan.{Plan}
use Rattle.lrs_inventory.specs.Plans.{plan_of}

-- the names of referents
abbrev pub names_of : List Referent → List Name
names_of refs = map (λ q. q.name) refs

-- the difference by which the route of this name goes with what lies on it, and what these rows of the ledger say
abbrev pub without_route : Name → RouteKeys → List Gone → Difference
without_route route keys gone = record no_difference { dropped = Some route; keys = keys; gone = gone }

-- the plan of it: its ground, these pieces, is free, and its referents, those of these names, stand nowhere any more
abbrev pub closing : (route : Name) (keys : RouteKeys) (gone : List Gone) (ground : List Piece) (names : List Name) → Plan
closing route keys gone ground names = record (plan_of (without_route route keys gone)) {
  ground = Some (record { route = route; gone = ground; passed = []; come = [] });
  referents = record { come = None; gone = names };
}
