use Rattle.std.proofs.Common.{refl}
use Rattle.lrs_position.proofs.Index.Cutting.{cut_none, cut_next, cut_all}
use Rattle.lrs_position.proofs.ground_index.GroundIndex.cut_at.Goals as goal

pub loop-piece-init : goal.loop-piece-init
loop-piece-init c = cut_none c.args.self.now

pub loop-piece-preserved : goal.loop-piece-preserved
loop-piece-preserved c = cut_next c.args.self.now c.loop-piece.self c.cut_piece.new.self c.args.pieces.now c.loop-piece.piece-index _ _ c.loop-piece-test.true refl c.loop-piece.invariant c.cut_piece.ensures.same c.in_ok-cut_piece.ensures.whole c.cut_piece.ensures.others

pub returns-clause-whole : goal.returns-clause-whole
returns-clause-whole c = (cut_all c.args.self.now c.loop-piece.self c.args.pieces.now c.loop-piece.piece-index c.loop-piece-test.false c.loop-piece.invariant).whole
