use Rattle.std.proofs.Common.{Some, sym, ap, subst, ◌∙◌}
use Rattle.std.proofs.lemmas.Result.{err_from_is_err_and}
use Rattle.std.specs.Prelude.{is_some}
use Rattle.lrs_machine.specs.declared.answer.Cause.TheVariants as cause
use Rattle.lrs_machine.specs.declared.command.Command.TheVariants as verb
use Rattle.lrs_inventory.specs.declared.plan.Plan.{Plan}
use Rattle.lrs_inventory.specs.Plans.{IsPlanOf}
use Rattle.lrs_inventory.proofs.Stopping.{refused, passed}
use Rattle.lrs_verbs.proofs.NewClass.{refuses_known, makes}
use Rattle.lrs_verbs.proofs.verbs.class.plan_class.Goals as goal

pub returns-in_err-refuse_if : goal.returns-in_err-refuse_if
returns-in_err-refuse_if c =
    let i = c.args.inventory.now in
    let k = c.args.class in
    let e = err_from_is_err_and c.from_residual.result c.from_residual.ensures.1 in
    rw (e.1, e.2) (refused (verb.Class k) i c.is_some-is_known.result cause.ClassKnown c.refuse_if.result _ c.refuse_if.ensures c.in_err-refuse_if.was
    (λ known. refuses_known k i _ (ap is_some (sym c.class.ensures) ∙ sym c.is_some-is_known.ensures ∙ known)))

pub returns : goal.returns
returns c =
    let i = c.args.inventory.now in
    let k = c.args.class in
    let fresh = passed c.is_some-is_known.result cause.ClassKnown c.refuse_if.result _ c.refuse_if.ensures c.in_ok-refuse_if.was in
    subst (λ (p : Plan). IsPlanOf (verb.Class k) i (record p { difference = record p.difference { class = Some k } })) (sym c.none-plan.ensures)
    (makes k i (ap is_some (sym c.class.ensures) ∙ sym c.is_some-is_known.ensures ∙ fresh) c.prove_sound.ensures)
