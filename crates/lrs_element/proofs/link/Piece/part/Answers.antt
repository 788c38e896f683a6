use Rattle.lrs_element.proofs.Expanding.{part_forward, part_backward}
use Rattle.lrs_element.proofs.link.Piece.part.Goals as goal

pub returns-then-self-clause-part : goal.returns-then-self-clause-part
returns-then-self-clause-part c = rw c.if-self.true (part_forward c.args.self.link c.args.self.from c.args.self.to c.args.from c.args.to c.requires.order c.requires.inside)

pub returns-else-self-clause-part : goal.returns-else-self-clause-part
returns-else-self-clause-part c = rw c.if-self.false (part_backward c.args.self.link c.args.self.from c.args.self.to c.args.from c.args.to c.requires.order c.requires.inside)
