use Rattle.lrs_position.proofs.Index.Meeting.{met_more}
use Rattle.lrs_position.proofs.ground_index.GroundIndex.routes_over.Goals as goal

pub loop-begin-preserved : goal.loop-begin-preserved
loop-begin-preserved c =
    met_more c.args.self.now c.args.link c.args.from c.loop-begin.edge c.args.to c.args.found.now c.loop-begin.found c.insert.new.self c.loop-begin.invariant c.in-Some.begin c.in-Some.stretch c.in-Some.ensures.apart
    c.in-Some.ensures.last c.in-Some.ensures.met c.in_ok-insert.ensures.updates
