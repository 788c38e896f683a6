use Rattle.lrs_inventory.proofs.Standing.{out_more, out_all}
use Rattle.lrs_inventory.proofs.referents.ReferentIndex.remove_all.Goals as goal

pub loop-name-preserved : goal.loop-name-preserved
loop-name-preserved c =
    out_more c.args.names.now c.loop-name.name-index c.name-item.result c.args.self.now c.loop-name.self c.remove.new.self c.loop-name-test.true c.name-item.is c.loop-name.invariant c.remove.ensures

pub returns : goal.returns
returns c = out_all c.args.names.now c.loop-name.name-index c.args.self.now c.loop-name.self c.loop-name-test.false c.loop-name.invariant
