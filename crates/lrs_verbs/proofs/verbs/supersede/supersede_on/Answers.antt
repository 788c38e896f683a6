use Rattle.std.proofs.Common.{ℕ, ◌+◌, rules, ap, subst}
use Rattle.lrs_image.proofs.Tables.{few_edits}
use Rattle.lrs_verbs.specs.Supersessions.{IsSuperseding}
use Rattle.lrs_inventory.proofs.Located.{route_in}
use Rattle.lrs_image_laws.proofs.Holding.{alone}
use Rattle.lrs_verbs.proofs.Superseded.{removed_there, supersedes}
use Rattle.lrs_verbs.proofs.verbs.supersede.supersede_on.Goals as goal

pub overflow_add-edit : goal.overflow_add-edit
overflow_add-edit c =
    let few = few_edits c.args.inventory.now c.prove_sound.ensures in
    rw c.edits-edit.ensures (search (rules, few))

pub superseding-requires-clause-once : goal.superseding-requires-clause-once
superseding-requires-clause-once c = (alone c.args.inventory.now c.args.route.now c.prove_sound.ensures (route_in c.args.inventory.now c.args.route.now c.requires.wanted.begun.route)).once

pub returns : goal.returns
returns c =
    let i = c.args.inventory.now in
    let e = c.args.asked.now in
    let r = c.args.route.now in
    let x = c.args.stretch in
    let removal = c.in_ok-removal.removal in
    supersedes e i c.args.kind r x removal c.in_ok-plan.plan c.prove_sound.ensures c.requires.wanted c.in_ok-plan.ensures.limits c.in_ok-removal.ensures.plan
    (removed_there e x c.from.result c.to.result r.spans removal c.from.ensures c.to.ensures c.in_ok-removal.ensures.removal)
    (subst (λ (n : ℕ). IsSuperseding n e x r.route.course removal c.in_ok-plan.plan) (ap (λ (n : ℕ). n + 1) c.edits-edit.ensures) c.in_ok-plan.ensures.plan)
