use Rattle.std.proofs.Common.{ℕ, ◌+◌, length, rules, ap, subst}
use Rattle.std.proofs.lemmas.Result.{err_from_is_err_and}
use Rattle.lrs_machine.specs.declared.command.Command.TheVariants as verb
use Rattle.lrs_inventory.specs.Prelude.{state_of}
use Rattle.lrs_image.proofs.Tables.{few_edits}
use Rattle.lrs_verbs.specs.Entries.{IsEntering}
use Rattle.lrs_inventory.proofs.Stopping.{stopped}
use Rattle.lrs_inventory.proofs.Located.{route_in}
use Rattle.lrs_image_laws.proofs.Holding.{alone}
use Rattle.lrs_verbs.proofs.EntryChecks.{then_held}
use Rattle.lrs_verbs.proofs.NewEntry.{enters}
use Rattle.lrs_verbs.proofs.verbs.enter.enter_on.Goals as goal

pub returns-in_err-check_held : goal.returns-in_err-check_held
returns-in_err-check_held c =
    let i = c.args.inventory.now in
    let e = c.args.asked.now in
    let w = c.requires.wanted in
    let err = err_from_is_err_and c.from_residual.result c.from_residual.ensures.1 in
    rw (err.1, err.2) (stopped (verb.Enter e) i _ _ c.in_err-check_held.ensures
    (λ d is. then_held e (length i.edits + 1) (state_of i) _ w.wanted _ is))

pub overflow_add-edit : goal.overflow_add-edit
overflow_add-edit c =
    let few = few_edits c.args.inventory.now c.prove_sound.ensures in
    rw c.edits-edit.ensures (search (rules, few))

pub entering-requires-clause-once : goal.entering-requires-clause-once
entering-requires-clause-once c = (alone c.args.inventory.now c.args.route.now c.prove_sound.ensures (route_in c.args.inventory.now c.args.route.now c.requires.wanted.begun.route)).once

pub returns : goal.returns
returns c =
    let i = c.args.inventory.now in
    let e = c.args.asked.now in
    let r = c.args.route.now in
    let x = c.args.stretch in
    enters e i c.args.kind r x c.in_ok-plan.plan c.prove_sound.ensures c.requires.wanted c.in_ok-plan.ensures.limits c.in_ok-check_held.ensures
    (subst (λ (n : ℕ). IsEntering n e x r.route.course c.in_ok-plan.plan) (ap (λ (n : ℕ). n + 1) c.edits-edit.ensures) c.in_ok-plan.ensures.plan)
