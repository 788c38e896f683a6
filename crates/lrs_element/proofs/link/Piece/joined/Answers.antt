use Rattle.lrs_element.proofs.Expanding.{joined_true, joined_false}
use Rattle.lrs_element.proofs.link.Piece.joined.Goals as goal

pub returns-then-self-clause-joined : goal.returns-then-self-clause-joined
returns-then-self-clause-joined c = joined_true c.args.self c.args.next c.if-self.true c.requires.continued c.requires.filled c.requires.next_filled

pub returns-else-self-clause-joined : goal.returns-else-self-clause-joined
returns-else-self-clause-joined c = joined_false c.args.self c.args.next c.if-self.false c.requires.continued c.requires.filled c.requires.next_filled
