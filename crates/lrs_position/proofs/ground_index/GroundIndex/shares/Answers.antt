use Rattle.std.proofs.Common.{sym}
use Rattle.lrs_position.proofs.Index.Sharing.{shares_none, shares_last}
use Rattle.lrs_position.proofs.ground_index.GroundIndex.shares.Goals as goal

pub returns-then-piece : goal.returns-then-piece
returns-then-piece c = shares_last c.args.self.now c.args.piece.now c.in-Some.field-0-0 c.in-Some.stretch c.last_before.ensures.apart c.in-Some.ensures.last c.if-piece.true

pub returns-in-None : goal.returns-in-None
returns-in-None c = sym (shares_none c.args.self.now c.args.piece.now c.in-None.ensures.none)
