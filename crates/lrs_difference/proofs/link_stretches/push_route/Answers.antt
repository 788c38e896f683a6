use Rattle.std.proofs.Common.{ap}
use Rattle.std.specs.List.{flat_map}
use Rattle.lrs_difference.specs.Held.{held_by_row}
use Rattle.lrs_difference.proofs.Gathered.{pushed_as}
use Rattle.lrs_difference.proofs.link_stretches.push_route.Goals as goal

pub returns : goal.returns
returns c = pushed_as c.push_rows.result c.push_rows.new.held.items c.args.held.now.items _ _ c.push_rows.ensures (ap (flat_map (held_by_row c.args.row.now.route.course)) c.rows.ensures.rows)
