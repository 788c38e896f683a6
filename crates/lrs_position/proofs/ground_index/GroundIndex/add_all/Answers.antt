use Rattle.std.proofs.Common.{refl, subst, sym, take}
use Rattle.lrs_position.specs.Index.Ground.{Stretches, HasGained}
use Rattle.lrs_position.proofs.Index.Gathering.{gained_none, gained_next, gained_all, gained_whole, next_filled, next_free}
use Rattle.lrs_position.proofs.ground_index.GroundIndex.add_all.Goals as goal

pub loop-i-init : goal.loop-i-init
loop-i-init c = gained_none c.args.self.now c.args.route

pub loop-i-preserved : goal.loop-i-preserved
loop-i-preserved c = gained_next c.args.self.now c.loop-i.self c.args.route c.args.pieces.now c.loop-i.i _ _ c.loop-i-test.true refl c.add.new.self c.loop-i.invariant c.in-Ok.ensures.ok

pub add-requires : goal.add-requires
add-requires c = record {
  filled = next_filled c.args.self.now c.loop-i.self c.args.route c.args.pieces.now c.loop-i.i _ _ c.loop-i-test.true refl c.requires.filled;
  free = next_free c.args.self.now c.loop-i.self c.args.route c.args.pieces.now c.loop-i.i _ _ c.loop-i-test.true refl c.requires.once c.requires.free c.loop-i.invariant;
}

pub returns-in-Err-clause-err : goal.returns-in-Err-clause-err
returns-in-Err-clause-err c = c.remove_added.ensures c.args.self.now c.args.route (subst (λ (s : Stretches). HasGained c.args.self.now s c.args.route (take c.loop-i.i c.args.pieces.now)) (sym c.in-Err.ensures.err) c.loop-i.invariant)

pub returns-clause-ok : goal.returns-clause-ok
returns-clause-ok c = gained_all c.args.self.now c.loop-i.self c.args.route c.args.pieces.now c.loop-i.i c.loop-i-test.false c.loop-i.invariant

pub returns-clause-whole : goal.returns-clause-whole
returns-clause-whole c = gained_whole c.args.self.now c.loop-i.self c.args.route c.args.pieces.now (gained_all c.args.self.now c.loop-i.self c.args.route c.args.pieces.now c.loop-i.i c.loop-i-test.false c.loop-i.invariant)
