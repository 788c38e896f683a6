use Rattle.std.proofs.Common.{ℕ, ◌+◌, rules, sym, ap, subst, ◌∙◌}
use Rattle.std.proofs.lemmas.Result.{err_from_is_err_and}
use Rattle.lrs_inventory.specs.Prelude.{alignment_of, state_of, located_stretch, Retired}
use Rattle.lrs_measure.specs.Lists.{is_nothing}
use Rattle.lrs_machine.specs.declared.answer.Cause.TheVariants as cause
use Rattle.lrs_machine.specs.declared.command.Command.TheVariants as verb
use Rattle.lrs_image.proofs.Tables.{few_edits}
use Rattle.lrs_verbs.specs.Removals.{IsTaking}
use Rattle.lrs_inventory.proofs.Stopping.{refused, passed, stopped}
use Rattle.lrs_inventory.proofs.Located.{route_in}
use Rattle.lrs_image_laws.proofs.Holding.{alone}
use Rattle.lrs_verbs.proofs.Retirement.{refuses_kind, refuses_stretch, refuses_empty, refuses_bare, retires}
use Rattle.lrs_verbs.proofs.verbs.retire.retire_on.Goals as goal

pub returns-in_err-refuse_if : goal.returns-in_err-refuse_if
returns-in_err-refuse_if c =
    let i = c.args.inventory.now in
    let r = c.args.route_row.now in
    let command = verb.Retire c.args.asset.number r.route.name c.args.location in
    let err = err_from_is_err_and c.from_residual.result c.from_residual.ensures.1 in
    rw (err.1, err.2) (refused command i c.is_wrong_kind.result cause.WrongKind c.refuse_if.result _ c.refuse_if.ensures c.in_err-refuse_if.was
    (λ wrong. refuses_kind i r c.args.asset c.args.kind c.args.location c.prove_sound.ensures c.requires.known (sym c.is_wrong_kind.ensures ∙ wrong)))

pub returns-in_err-stretch : goal.returns-in_err-stretch
returns-in_err-stretch c =
    let i = c.args.inventory.now in
    let r = c.args.route_row.now in
    let command = verb.Retire c.args.asset.number r.route.name c.args.location in
    let right = sym c.is_wrong_kind.ensures ∙ passed c.is_wrong_kind.result cause.WrongKind c.refuse_if.result _ c.refuse_if.ensures c.in_ok-refuse_if.was in
    let err = err_from_is_err_and c.from_residual-in_err-stretch.result c.from_residual-in_err-stretch.ensures.1 in
    rw (err.1, err.2) (stopped command i (located_stretch (state_of i) (alignment_of r.route) c.args.location) _ c.in_err-stretch.ensures.answer
    (λ d is. refuses_stretch i r c.args.asset c.args.kind c.args.location c.prove_sound.ensures c.requires.known right d is))

pub returns-in_err-refuse_if-2 : goal.returns-in_err-refuse_if-2
returns-in_err-refuse_if-2 c =
    let i = c.args.inventory.now in
    let r = c.args.route_row.now in
    let command = verb.Retire c.args.asset.number r.route.name c.args.location in
    let right = sym c.is_wrong_kind.ensures ∙ passed c.is_wrong_kind.result cause.WrongKind c.refuse_if.result _ c.refuse_if.ensures c.in_ok-refuse_if.was in
    let err = err_from_is_err_and c.from_residual-in_err-refuse_if-2.result c.from_residual-in_err-refuse_if-2.ensures.1 in
    rw (err.1, err.2) (refused command i c.is_empty.result cause.Empty c.refuse_if-2.result _ c.refuse_if-2.ensures c.in_err-refuse_if-2.was
    (λ none. refuses_empty i r c.args.asset c.args.kind c.args.location c.prove_sound.ensures c.requires.known right c.in_ok-stretch.stretch c.in_ok-stretch.ensures.answer (sym c.is_empty.ensures ∙ none)))

pub returns-in_err-refuse_if-3 : goal.returns-in_err-refuse_if-3
returns-in_err-refuse_if-3 c =
    let i = c.args.inventory.now in
    let r = c.args.route_row.now in
    let command = verb.Retire c.args.asset.number r.route.name c.args.location in
    let right = sym c.is_wrong_kind.ensures ∙ passed c.is_wrong_kind.result cause.WrongKind c.refuse_if.result _ c.refuse_if.ensures c.in_ok-refuse_if.was in
    let some = sym c.is_empty.ensures ∙ passed c.is_empty.result cause.Empty c.refuse_if-2.result _ c.refuse_if-2.ensures c.in_ok-refuse_if-2.was in
    let err = err_from_is_err_and c.from_residual-in_err-refuse_if-3.result c.from_residual-in_err-refuse_if-3.ensures.1 in
    rw (err.1, err.2) (refused command i c.is_nothing.result cause.Empty c.refuse_if-3.result _ c.refuse_if-3.ensures c.in_err-refuse_if-3.was
    (λ none. refuses_bare i r c.args.asset c.args.kind c.args.location c.prove_sound.ensures c.requires.known right c.in_ok-stretch.stretch c.in_ok-stretch.ensures.answer c.in_ok-removal.removal some c.in_ok-stretch.ensures.within
    c.in_ok-removal.ensures.removal (sym (c.is_nothing.ensures ∙ ap is_nothing c.deref.ensures.value) ∙ none)))

pub overflow_add-edit : goal.overflow_add-edit
overflow_add-edit c =
    let few = few_edits c.args.inventory.now c.prove_sound.ensures in
    rw c.edits-edit.ensures (search (rules, few))

pub retiring-requires-clause-once : goal.retiring-requires-clause-once
retiring-requires-clause-once c = (alone c.args.inventory.now c.args.route_row.now c.prove_sound.ensures (route_in c.args.inventory.now c.args.route_row.now c.requires.known.route)).once

pub returns : goal.returns
returns c =
    let i = c.args.inventory.now in
    let r = c.args.route_row.now in
    let right = sym c.is_wrong_kind.ensures ∙ passed c.is_wrong_kind.result cause.WrongKind c.refuse_if.result _ c.refuse_if.ensures c.in_ok-refuse_if.was in
    let some = sym c.is_empty.ensures ∙ passed c.is_empty.result cause.Empty c.refuse_if-2.result _ c.refuse_if-2.ensures c.in_ok-refuse_if-2.was in
    let held = sym (c.is_nothing.ensures ∙ ap is_nothing c.deref.ensures.value) ∙ passed c.is_nothing.result cause.Empty c.refuse_if-3.result _ c.refuse_if-3.ensures c.in_ok-refuse_if-3.was in
    retires i r c.args.asset c.args.kind c.args.location c.prove_sound.ensures c.requires.known right c.in_ok-stretch.stretch c.in_ok-stretch.ensures.answer c.in_ok-removal.removal some c.in_ok-stretch.ensures.within
    c.in_ok-removal.ensures.removal c.in_ok-removal.ensures.plan held c.in_ok-plan.plan
    (subst (λ (n : ℕ). IsTaking n Retired r c.in_ok-removal.removal c.in_ok-plan.plan) (ap (λ (n : ℕ). n + 1) c.edits-edit.ensures) c.in_ok-plan.ensures)
