use Rattle.lrs_position.specs.Index.Ground.{route_over}
use Rattle.lrs_position.proofs.Index.Meeting.{HasMet}
use Rattle.lrs_position.proofs.ground_index.GroundIndex.routes_over.Given as goal

abbrev pub invariant-loop-begin : goal.invariant-loop-begin
invariant-loop-begin l = HasMet (route_over l.self) l.link l.from l.edge l.to l.fn.found l.found

-- each turn goes back along the link
abbrev pub decreases-loop-begin : goal.decreases-loop-begin
decreases-loop-begin l = l.edge
