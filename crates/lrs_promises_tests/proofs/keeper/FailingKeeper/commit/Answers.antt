use Rattle.std.proofs.Common.{◌≡◌, ◌⊎◌, inr, arith, ap, OnOk, subst, Result, ◌∙◌}
use Rattle.std.proofs.lemmas.Grind.{common_steps}
use Rattle.lrs_machine.specs.declared.image.Image.{Image}
use Rattle.lrs_machine.specs.declared.table.Table.{Table}
use Rattle.lrs_image.specs.ChangeLists.{IsChangedBy}
use Rattle.lrs_promises_tests.specs.FailingKeepers.{FailingView}
use Rattle.lrs_promises_tests.proofs.keeper.FailingKeeper.commit.Goals as goal

pub returns-then-self-gt0-clause-keeps : goal.returns-then-self-gt0-clause-keeps
returns-then-self-gt0-clause-keeps c =
    let keeps = c.commit.ensures.keeps in
    record {
      ok = subst (λ (v : FailingView). OnOk c.commit.result ((x : Result Image Table) → x ≡ c.commit.new.self.content → IsChangedBy (λ y. y ≡ v.plain.content) v.plain.staged x)) c.self.view_is keeps.ok;
      memory = λ e x h. keeps.memory e x h ∙ ap (λ (v : FailingView). v.plain.content) c.self.view_is;
      store = λ e x h. subst (λ (v : FailingView). (x ≡ v.plain.content) ⊎ IsChangedBy (λ y. y ≡ v.plain.content) v.plain.staged x) c.self.view_is (keeps.store e x h);
      counts = omega (arith, ap (λ (v : FailingView). v.failures) c.self.view_is);
      found = keeps.found;
      loaded = keeps.loaded;
      reached = λ other clean. tt;
    }

pub returns-in_ok-commit-in-New-clause-keeps : goal.returns-in_ok-commit-in-New-clause-keeps
returns-in_ok-commit-in-New-clause-keeps c =
    let keeps = c.commit-in-New.ensures.keeps in
    record {
      ok = tt;
      memory = λ e. absurd (cc e);
      store = λ e x h.
          inr (subst (λ (v : FailingView). IsChangedBy (λ y. y ≡ v.plain.content) v.plain.staged x) c.self.view_is (c.in_ok-commit-in-New.ensures.keeps.ok x h));
      counts = grind (arith, common_steps);
      found = keeps.found;
      loaded = keeps.loaded;
      reached = λ other clean. tt;
    }
