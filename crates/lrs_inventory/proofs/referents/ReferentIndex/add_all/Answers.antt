use Rattle.lrs_inventory.proofs.Standing.{come_more}
use Rattle.lrs_inventory.proofs.referents.ReferentIndex.add_all.Goals as goal

pub loop-referent-preserved : goal.loop-referent-preserved
loop-referent-preserved c =
    come_more c.args.course.now c.args.referents.now c.loop-referent.referent-index c.referent-item.result c.args.self.now c.loop-referent.self c.add.new.self c.loop-referent-test.true c.referent-item.is
    c.loop-referent.invariant c.in_ok-add.ensures
