use Rattle.lrs_difference.specs.Sweep.{edges_of}
use Rattle.lrs_difference.proofs.SortedEdges.{pushed_at}
use Rattle.lrs_difference.proofs.alone.push_all_edges.Goals as goal

pub loop-stretch-preserved : goal.loop-stretch-preserved
loop-stretch-preserved c =
    pushed_at edges_of c.loop-stretch.stretch-index c.args.held.now _ c.args.edges.now.items c.loop-stretch.edges.items c.push_edges.new.edges.items c.loop-stretch-test.true c.loop-stretch.invariant c.in_ok-push_edges.ensures
