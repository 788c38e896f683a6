use Rattle.std.proofs.Common.{◌≤◌, ℕ, length, subst, sym}
use Rattle.lrs_inventory.proofs.Located.{end_on_route}
use Rattle.lrs_inventory.proofs.inventory.Inventory.end.Goals as goal

pub returns-clause-within : goal.returns-clause-within
returns-clause-within c =
    let len = length c.args.route_row.now.route.course in
    let q = c.in_ok-chainage.chainage in
    subst (λ (n : ℕ). n ≤ len) (sym c.snap.ensures) (end_on_route len q c.in_ok-chainage.ensures.lowest.positive c.in_ok-chainage.ensures.on_route)
