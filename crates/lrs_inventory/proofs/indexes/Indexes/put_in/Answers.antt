use Rattle.std.proofs.Common.{ap}
use Rattle.std.specs.FinMap.{get}
use Rattle.lrs_inventory.specs.Places.{Places}
use Rattle.lrs_inventory.proofs.indexes.Indexes.put_in.Goals as goal

pub returns-in-Err-put_in-clause-err : goal.returns-in-Err-put_in-clause-err
returns-in-Err-put_in-clause-err c = record {
  keys = c.remove.ensures c.args.self.now.keys c.in_default.ensures.ok;
  ground = λ m. c.take_out_added-in-Err-put_in.ensures c.args.self.now.ground c.in_ok-cut_and_add.ensures.ok m;
  referents = λ name. ap (λ (s : Places). get s name) c.in-Err-put_in.ensures.err;
}
