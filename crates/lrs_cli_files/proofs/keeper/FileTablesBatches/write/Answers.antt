use Rattle.std.proofs.Common.{◌≡◌, ◌∙◌, ◌≤◌, arith, inr, refl}
use Rattle.lrs_cli_files.proofs.keeper.FileTablesBatches.write.Goals as goal

-- what was written is kept, and the tables are given up
pub returns-in-Ok-2-clause-keeps : goal.returns-in-Ok-2-clause-keeps
returns-in-Ok-2-clause-keeps g c =
    let keeps = c.in-Ok-2.ensures.keeps in
    record {
      ok = tt;
      memory = λ is content may. absurd (let e = is in cc);
      store = λ is content may. inr (keeps.ok content (rw c.give_up.ensures.kept at may));
      counts = omega (arith, keeps.counts, c.give_up.ensures.counts);
      found = λ content may. keeps.found content (rw c.give_up.ensures.kept at may);
      loaded = c.give_up.ensures.loaded ∙ keeps.loaded;
      reached = λ not. absurd (not refl);
    }
