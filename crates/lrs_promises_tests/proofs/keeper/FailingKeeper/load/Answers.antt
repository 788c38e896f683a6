use Rattle.std.proofs.Common.{arith, sym, subst, Result, IfOk}
use Rattle.std.proofs.lemmas.Grind.{common_steps}
use Rattle.lrs_machine.specs.declared.image.Image.{Image}
use Rattle.lrs_machine.specs.declared.table.Table.{Table}
use Rattle.lrs_machine.specs.Sound.{IsSound}
use Rattle.lrs_promises_tests.proofs.keeper.FailingKeeper.load.Goals as goal

pub returns-clause-loads : goal.returns-clause-loads
returns-clause-loads c = record {
  image = tt;
  sound = tt;
  loaded = tt;
  unsound = λ t e. absurd (cc e);
  named = λ t e. absurd (cc e);
  store = grind (arith, common_steps);
  quiet = grind (arith, common_steps);
  counts = grind (arith, common_steps);
  found = λ x e. subst (λ (y : Result Image Table). IfOk y (λ (i : Image). IsSound i)) (sym e) c.drop_staged.ensures.sound;
  content = grind (arith, common_steps);
  reached = tt;
}
