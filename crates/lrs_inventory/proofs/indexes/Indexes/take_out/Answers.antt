use Rattle.lrs_inventory.proofs.Indexing.{taken_out}
use Rattle.lrs_inventory.proofs.indexes.Indexes.take_out.Goals as goal

pub returns : goal.returns
returns c = λ before put.
    taken_out c.args.key.now c.args.place c.args.ground.now c.args.come.now before c.args.self.now (record { keys = c.remove.new.self; ground = c.take_out_added.new.ground; referents = c.take_out.new.self }) put
    (c.remove.ensures before.keys put.keys) (c.take_out_added.ensures before.ground put.ground) c.take_out.ensures
