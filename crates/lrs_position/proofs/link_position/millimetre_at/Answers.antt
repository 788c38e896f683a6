use Rattle.std.proofs.Common.{◌<◌, unsigned_abs, rules}
use Rattle.lrs_position.proofs.OnLinks.{cell_inside}
use Rattle.lrs_position.proofs.link_position.millimetre_at.Goals as goal

pub returns-in-Ok-clause-inside : goal.returns-in-Ok-clause-inside
returns-in-Ok-clause-inside c =
    let filled : 0 < c.from-length.result = rw c.from-length.ensures (search rules) in
    cell_inside c.from-length.result (unsigned_abs c.args.distance.num) c.args.distance.den c.cell.result c.cell.ensures filled (rw c.in-Ok.ensures.ok.1 c.in-Ok.ensures.ok.2)
