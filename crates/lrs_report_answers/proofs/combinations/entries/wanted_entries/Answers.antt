use Rattle.std.proofs.Common.{[], List, ap, subst, sym, ◌∙◌}
use Rattle.std.specs.Prelude.{Option, IfOk}
use Rattle.std.proofs.lemmas.Result.{IfOk-weaker}
use Rattle.lrs_measure.specs.Texts.{Name}
use Rattle.lrs_machine.specs.declared.image.RouteRow.{RouteRow}
use Rattle.lrs_machine.specs.Image.{state_of}
use Rattle.lrs_report_lists.specs.Lists.{routes_named}
use Rattle.lrs_report_lists.proofs.Chosen.{all_chosen}
use Rattle.lrs_report_answers.specs.CombinationParts.{CountRoutes}
use Rattle.lrs_report_answers.proofs.combinations.entries.wanted_entries.Goals as goal

pub returns-in-Some : goal.returns-in-Some
returns-in-Some c =
    let i = c.args.inventory.now in
    IfOk-weaker c.named_entries.result _ _ (λ es h. subst (λ (o : Option Name). CountRoutes (state_of i) c.args.classes.now es.items [] (routes_named o i)) (sym c.in-Some.is) h) c.named_entries.ensures

pub returns-in-None : goal.returns-in-None
returns-in-None c =
    let i = c.args.inventory.now in
    let all = sym (all_chosen i.routes) ∙ ap (λ (o : Option Name). routes_named o i) (sym c.in-None.is) in
    IfOk-weaker c.all_entries.result _ _ (λ es h. subst (λ (routes : List RouteRow). CountRoutes (state_of i) c.args.classes.now es.items [] routes) all h) c.all_entries.ensures
