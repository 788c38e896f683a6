use Rattle.std.proofs.Common.{arith, refl}
use Rattle.std.proofs.lemmas.Grind.{common_steps}
use Rattle.lrs_desk.proofs.PlainContents.{truncated}
use Rattle.lrs_desk.proofs.plain.PlainKeeper.load.Goals as goal

pub returns-in_err-made-clause-loads : goal.returns-in_err-made-clause-loads
returns-in_err-made-clause-loads c =
    let d = c.self.inside in
    record {
      image = grind (arith, common_steps);
      sound = grind (arith, common_steps);
      loaded = grind (arith, common_steps);
      unsound = grind (arith, common_steps);
      named = grind (arith, common_steps);
      store = grind (arith, common_steps);
      quiet = λ _. refl;
      counts = omega arith;
      found = truncated d.kept d.changes.items c.truncate.new.self.items d.base c.self.invariant.within c.truncate.ensures.items c.self.invariant.content;
      content = grind (arith, common_steps);
      reached = grind (arith, common_steps);
    }

pub returns-in-Unsound : goal.returns-in-Unsound
returns-in-Unsound c = grind (arith, common_steps)

pub returns-in-Ok : goal.returns-in-Ok
returns-in-Ok c = grind (arith, common_steps)

pub returns-in-Err-clause-loads : goal.returns-in-Err-clause-loads
returns-in-Err-clause-loads c =
    let d = c.self.inside in
    record {
      image = tt;
      sound = tt;
      loaded = tt;
      unsound = grind (arith, common_steps);
      named = grind (arith, common_steps);
      store = grind (arith, common_steps);
      quiet = λ _. refl;
      counts = omega arith;
      found = truncated d.kept d.changes.items c.truncate.new.self.items d.base c.self.invariant.within c.truncate.ensures.items c.self.invariant.content;
      content = grind (arith, common_steps);
      reached = tt;
    }

pub returns-in-Err-clause-staged : goal.returns-in-Err-clause-staged
returns-in-Err-clause-staged c = grind (arith, common_steps)
