use Rattle.lrs_position.proofs.Index.Meeting.{none_first, none_past, none_behind, last_is_met}
use Rattle.lrs_position.proofs.ground_index.GroundIndex.last_met.Goals.{else-from-edge-via-then-from-edge+else-from-stretch, else-from-edge-via-else-from-edge}
use Rattle.lrs_position.proofs.ground_index.GroundIndex.last_met.Goals as goal

pub returns-in_err-begin-clause-none : goal.returns-in_err-begin-clause-none
returns-in_err-begin-clause-none c = rw c.from_residual.ensures (none_first c.args.self.now c.args.link c.args.from c.args.edge c.in_err-begin.ensures.none)

pub returns-then-from-stretch-clause-met : goal.returns-then-from-stretch-clause-met
returns-then-from-stretch-clause-met c = last_is_met c.args.self.now c.args.link c.args.from c.args.edge c.in_ok-begin.begin c.in_ok-begin.stretch c.last_before.ensures.apart c.in_ok-begin.ensures.last c.if-from-edge.true c.if-from-stretch.true

pub returns-else-from-edge-clause-none : goal.returns-else-from-edge-clause-none
returns-else-from-edge-clause-none c = elim c.else-from-edge.branch [
  | else-from-edge-via-then-from-edge+else-from-stretch w ↦ none_behind c.args.self.now c.args.link c.args.from c.args.edge c.in_ok-begin.begin c.in_ok-begin.stretch c.last_before.ensures.apart c.in_ok-begin.ensures.last w.if-from-stretch.false
  | else-from-edge-via-else-from-edge w ↦ none_past c.args.self.now c.args.link c.args.from c.args.edge w.if-from-edge.false
]
