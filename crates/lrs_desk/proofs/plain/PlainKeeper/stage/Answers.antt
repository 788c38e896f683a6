use Rattle.std.proofs.Common.{arith, ap, refl, sym, ◌∙◌}
use Rattle.std.proofs.lemmas.Grind.{common_steps}
use Rattle.lrs_image.specs.KeeperCalls.{is_image}
use Rattle.lrs_desk.specs.PlainKeeper.{PlainView}
use Rattle.lrs_desk.proofs.PlainContents.{same_content}
use Rattle.lrs_desk.proofs.plain.PlainKeeper.stage.Goals as goal

pub returns-clause-ok : goal.returns-clause-ok
returns-clause-ok c = grind (arith, common_steps)

pub returns-clause-err : goal.returns-clause-err
returns-clause-err c = grind (arith, common_steps)

pub returns-clause-rest : goal.returns-clause-rest
returns-clause-rest c =
    let d = c.self.inside in
    let same = same_content d.kept d.changes.items c.push.new.self.items c.args.change d.base c.self.invariant.within c.in_ok-push.ensures.items ∙ ap (λ (v : PlainView). v.content) c.self.view_is in
    record {
      content = λ x. (λ h. h ∙ same, λ h. h ∙ sym same);
      loaded = ap is_image same;
      clean = λ h. h;
      reached = λ h. h;
      quiet = refl;
    }
