use Rattle.lrs_inventory.specs.Keys.{IsKeyPutIn}
use Rattle.lrs_inventory.proofs.Keyed.{IsIndex-next}
use Rattle.lrs_inventory.proofs.keys.KeyIndex.of_edits.Goals as goal
use Rattle.std.proofs.Common.{subst}
use Rattle.lrs_inventory.specs.Prelude.{Edit}

pub loop-i-preserved : goal.loop-i-preserved
loop-i-preserved c =
    let put = subst (λ (e : Edit). IsKeyPutIn e.key c.loop-i.i c.loop-i.keys c.insert.new.self) c.index-edits-i.is c.in_ok-insert.ensures.ok in
    IsIndex-next c.loop-i.keys c.insert.new.self c.args.edits.now c.loop-i.i c.index-edits-i.result c.loop-i-test.true c.loop-i.invariant put
