use Rattle.lrs_difference.proofs.AddedRows.{last_edge, next_edge}
use Rattle.lrs_difference.proofs.alone.rows_over.Goals as goal

pub loop-edge-preserved : goal.loop-edge-preserved
loop-edge-preserved c = next_edge c.args.left.now c.args.right.now c.loop-edge.at c.loop-edge.edge-index c.args.edges.now c.loop-edge.rows.items c.go_on.new.rows.items c.loop-edge-test.true c.loop-edge.invariant c.in_ok-go_on.ensures

pub returns : goal.returns
returns c = last_edge c.args.left.now c.args.right.now c.loop-edge.at c.loop-edge.edge-index c.args.edges.now c.loop-edge.rows.items c.loop-edge-test.false c.loop-edge.invariant
