use Rattle.std.proofs.Common.{◌∙◌}
use Rattle.lrs_difference.proofs.NearStretches.{alone_by_near}
use Rattle.lrs_difference.proofs.alone.side_alone.Goals as goal

pub returns : goal.returns
returns c =
    c.side_of_near.ensures
    ∙ alone_by_near c.args.edge.now c.args.left.now c.args.right.now c.near-near_left.result.now c.near-near_right.result.now c.near-near_left.ensures c.near-near_right.ensures
