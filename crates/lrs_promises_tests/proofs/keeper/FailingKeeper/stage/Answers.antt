use Rattle.std.proofs.Common.{ap, sym, ◌∙◌}
use Rattle.lrs_image.specs.KeeperCalls.{is_image}
use Rattle.lrs_promises_tests.specs.FailingKeepers.{FailingView}
use Rattle.lrs_promises_tests.proofs.keeper.FailingKeeper.stage.Goals as goal

pub returns-clause-rest : goal.returns-clause-rest
returns-clause-rest c =
    let same = ap (λ (v : FailingView). v.plain.content) c.self.view_is in
    let rest = c.stage.ensures.rest in
    record {
      content = λ x. (λ h. (rest.content x).0 h ∙ same, λ h. (rest.content x).1 (h ∙ sym same));
      loaded = rest.loaded ∙ ap is_image same;
      clean = λ h. h;
      reached = λ h. h;
      quiet = ap (λ (v : FailingView). v.failures) c.self.view_is;
    }
