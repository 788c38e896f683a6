use Rattle.std.proofs.Common.{unsigned_abs}
use Rattle.lrs_position.proofs.OnLinks.{cell_inside, size_below}
use Rattle.lrs_position.proofs.link_position.link_position.Goals as goal

pub across-requires-clause-inside : goal.across-requires-clause-inside
across-requires-clause-inside c =
    cell_inside c.length.result (unsigned_abs c.args.chainage.num) c.args.chainage.den c.cell-place.result c.cell-place.ensures c.length.ensures.positive
    (size_below c.args.chainage.num _ c.requires.on_route.from (rw c.length.ensures.length c.requires.on_route.to))
