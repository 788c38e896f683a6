use Rattle.std.proofs.Common.{refl}
use Rattle.lrs_position.proofs.Index.Losing.{without_none, without_next, without_all, undone}
use Rattle.lrs_position.proofs.ground_index.GroundIndex.remove_added.Goals as goal

pub loop-piece-init : goal.loop-piece-init
loop-piece-init c = without_none c.args.self.now

pub loop-piece-preserved : goal.loop-piece-preserved
loop-piece-preserved c = without_next c.args.self.now c.loop-piece.self c.remove.new.self c.args.pieces.now c.loop-piece.piece-index _ _ c.loop-piece-test.true refl c.loop-piece.invariant c.remove.ensures

pub returns : goal.returns
returns c = λ before route g. undone before c.args.self.now c.loop-piece.self route c.args.pieces.now g (without_all c.args.self.now c.loop-piece.self c.args.pieces.now c.loop-piece.piece-index c.loop-piece-test.false c.loop-piece.invariant)
