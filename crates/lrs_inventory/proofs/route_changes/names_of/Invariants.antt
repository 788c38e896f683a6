use Rattle.std.proofs.Common.{◌≡◌, ◌++◌, drop, map}
use Rattle.lrs_inventory.proofs.route_changes.names_of.Given as goal

abbrev pub invariant-loop-referent : goal.invariant-loop-referent
invariant-loop-referent l = l.out.items ++ map (λ q. q.name) (drop l.referent-index l.refs) ≡ map (λ q. q.name) l.refs
