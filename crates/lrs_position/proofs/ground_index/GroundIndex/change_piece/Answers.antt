use Rattle.std.proofs.Common.{subst, inl, inr, refl, arith}
use Rattle.lrs_position.specs.Index.Stretches.{AreApart}
use Rattle.lrs_position.proofs.Index.Cutting.{stays_whole}
use Rattle.lrs_position.proofs.Index.Handing.{IsHanded, handed_first, handed_more, handed_last, over_handed, parts_handed}
use Rattle.lrs_position.proofs.ground_index.GroundIndex.change_piece.Goals.{In_default}
use Rattle.lrs_position.proofs.ground_index.GroundIndex.change_piece.Goals as goal

pub loop-begin-init : goal.loop-begin-init
loop-begin-init c = record {
  handed = handed_first c.args.self.now c.args.piece.now.link c.args.piece.now.to c.args.heir.now;
  within = omega arith;
  reached = inl refl;
}

pub loop-begin-preserved : goal.loop-begin-preserved
loop-begin-preserved c = record {
  handed = handed_more c.args.self.now c.loop-begin.self c.args.piece.now.link c.loop-begin.edge c.args.piece.now.to c.args.heir.now c.loop-begin.invariant.handed c.change.new.self c.in-Some.begin c.in-Some.stretch c.loop-begin.invariant.within c.in-Some.ensures.last c.change.ensures.here c.change.ensures.others;
  within = let b = c.in-Some.ensures.last.before in let w = c.loop-begin.invariant.within in omega (arith, b, w);
  reached = inr c.in-Some.ensures.from;
}

all : (c : In_default) → IsHanded c.args.self.now c.loop-begin.self c.args.piece.now.link c.args.piece.now.from c.args.piece.now.to c.args.heir.now
all c = handed_last c.args.self.now c.loop-begin.self c.args.piece.now.link c.loop-begin.edge c.args.piece.now.to c.args.heir.now c.loop-begin.invariant.handed c.args.piece.now.from c.loop-begin.invariant.reached c.in_default.ensures.none

pub returns-clause-over : goal.returns-clause-over
returns-clause-over c = over_handed c.args.self.now c.loop-begin.self c.args.piece.now c.args.heir.now (all c) (subst AreApart c.self.view_is c.self.invariant) c.requires.whole

pub returns-clause-others : goal.returns-clause-others
returns-clause-others c = stays_whole c.args.self.now c.loop-begin.self (parts_handed c.args.self.now c.loop-begin.self c.args.piece.now c.args.heir.now (all c))
