use Rattle.std.proofs.Common.{refl}
use Rattle.std.proofs.lemmas.List.Elements.{All-from_recursion}
use Rattle.lrs_position.specs.Index.Ground.{IsWhole}
use Rattle.lrs_position.proofs.Index.Handing.{handed_none, handed_next, handed_all}
use Rattle.lrs_position.proofs.ground_index.GroundIndex.change_all.Goals as goal

pub loop-piece-init : goal.loop-piece-init
loop-piece-init c = handed_none c.args.self.now c.args.heir.now

pub change_piece-requires : goal.change_piece-requires
change_piece-requires c = record {
  whole = All-from_recursion (IsWhole c.loop-piece.self) c.args.pieces.now (c.loop-piece.invariant.others c.args.pieces.now c.requires.whole) c.loop-piece.piece-index _ c.loop-piece-test.true;
}

pub loop-piece-preserved : goal.loop-piece-preserved
loop-piece-preserved c = handed_next c.args.self.now c.loop-piece.self c.change_piece.new.self c.args.pieces.now c.loop-piece.piece-index _ _ c.args.heir.now c.loop-piece-test.true refl c.loop-piece.invariant c.change_piece.ensures.over c.change_piece.ensures.others

pub returns-clause-over : goal.returns-clause-over
returns-clause-over c = (handed_all c.args.self.now c.loop-piece.self c.args.pieces.now c.loop-piece.piece-index c.args.heir.now c.loop-piece-test.false c.loop-piece.invariant).over
