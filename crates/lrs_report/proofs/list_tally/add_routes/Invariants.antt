use Rattle.std.proofs.Common.{◌≡◌, true, drop, map}
use Rattle.lrs_report.specs.ListTally.{are_by_class, with_routes}
use Rattle.lrs_report.proofs.list_tally.add_routes.Given as goal

abbrev pub invariant-loop-route : goal.invariant-loop-route
invariant-loop-route l = record {
  order : are_by_class l.totals.items ≡ true;
  sums : with_routes (map (λ s. s.now) (drop l.route-index l.spans)) l.totals.items ≡ with_routes (map (λ s. s.now) l.spans) l.fn.totals.items;
}
