use Rattle.lrs_report.proofs.Drawings.Appending.{appends_next}
use Rattle.lrs_report.proofs.diagrams.shapes.draw_each.Goals as goal

pub loop-shape-preserved : goal.loop-shape-preserved
loop-shape-preserved g c =
    appends_next (g.T.Shape.drawn c.args.scale) c.loop-shape.shape-index c.args.shapes.now c.shape-item.result _ _ _ c.loop-shape-test.true c.shape-item.is c.loop-shape.invariant c.in_ok-draw.ensures
