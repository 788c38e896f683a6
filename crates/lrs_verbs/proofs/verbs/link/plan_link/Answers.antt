use Rattle.std.proofs.Common.{Some, sym, ap, subst, ◌∙◌}
use Rattle.std.proofs.lemmas.Result.{err_from_is_err_and}
use Rattle.std.specs.Prelude.{is_some}
use Rattle.lrs_machine.specs.declared.answer.Cause.TheVariants as cause
use Rattle.lrs_machine.specs.declared.command.Command.TheVariants as verb
use Rattle.lrs_inventory.specs.declared.plan.Plan.{Plan}
use Rattle.lrs_inventory.specs.Plans.{IsPlanOf}
use Rattle.lrs_inventory.proofs.Stopping.{refused, passed}
use Rattle.lrs_verbs.proofs.NewLink.{refuses_known, makes}
use Rattle.lrs_verbs.proofs.verbs.link.plan_link.Goals as goal

pub returns-in_err-refuse_if : goal.returns-in_err-refuse_if
returns-in_err-refuse_if c =
    let i = c.args.inventory.now in
    let l = c.args.link in
    let e = err_from_is_err_and c.from_residual.result c.from_residual.ensures.1 in
    rw (e.1, e.2) (refused (verb.Link l) i c.is_some-is_known.result cause.LinkKnown c.refuse_if.result _ c.refuse_if.ensures c.in_err-refuse_if.was
    (λ known. refuses_known l i _ (ap is_some (sym c.link_length.ensures) ∙ sym c.is_some-is_known.ensures ∙ known)))

pub returns : goal.returns
returns c =
    let i = c.args.inventory.now in
    let l = c.args.link in
    let fresh = passed c.is_some-is_known.result cause.LinkKnown c.refuse_if.result _ c.refuse_if.ensures c.in_ok-refuse_if.was in
    subst (λ (p : Plan). IsPlanOf (verb.Link l) i (record p { difference = record p.difference { link = Some l } })) (sym c.none-plan.ensures)
    (makes l i (ap is_some (sym c.link_length.ensures) ∙ sym c.is_some-is_known.ensures ∙ fresh) c.prove_sound.ensures)
