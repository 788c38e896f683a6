use Rattle.std.proofs.Common.{ℕ, ◌+◌, Err, List, rules, sym, ap, subst, ◌∙◌}
use Rattle.std.proofs.lemmas.Result.{err_from_is_err_and}
use Rattle.lrs_inventory.specs.Prelude.{Referent, Span, holds_by_spans, AreGone}
use Rattle.lrs_machine.specs.declared.command.Command.TheVariants as verb
use Rattle.lrs_machine.specs.State.{Abandoned}
use Rattle.lrs_image.proofs.Tables.{few_edits}
use Rattle.lrs_image_laws.proofs.Naming.{found_in}
use Rattle.lrs_image_laws.proofs.Rewriting.{its_course}
use Rattle.lrs_inventory.specs.declared.plan.Plan.{Plan}
use Rattle.lrs_inventory.specs.declared.plan.Stop.{Stop}
use Rattle.lrs_verbs.specs.Closings.{names_of, closing}
use Rattle.lrs_inventory.specs.Plans.{IsPlanOf, Plans}
use Rattle.lrs_verbs.proofs.Closed.{refuses_route, closes}
use Rattle.lrs_verbs.proofs.verbs.close.plan_close.Goals as goal

pub returns-in_err-route_row : goal.returns-in_err-route_row
returns-in_err-route_row c =
    let i = c.args.inventory.now in
    let e = err_from_is_err_and c.from_residual.result c.from_residual.ensures.1 in
    let missing = c.in_err-route_row.ensures.missing in
    rw (e.1, e.2) (subst (λ (why : Stop). Plans (verb.Close c.args.route) i (Err why)) (sym missing.0) (refuses_route c.args.route i _ missing.1))

pub overflow_add-edit : goal.overflow_add-edit
overflow_add-edit c =
    let few = few_edits c.args.inventory.now c.prove_sound.ensures in
    rw c.edits-edit.ensures (search (rules, few))

pub taken_away-requires-clause-once : goal.taken_away-requires-clause-once
taken_away-requires-clause-once c =
    let i = c.args.inventory.now in
    let r = c.in_ok-route_row.route_row.now in
    (its_course i c.prove_sound.ensures r (found_in c.args.route r i.routes c.in_ok-route_row.ensures.found).0).1

pub returns : goal.returns
returns c =
    let i = c.args.inventory.now in
    let r = c.in_ok-route_row.route_row.now in
    let gone = c.in_ok-gone.gone in
    let led = subst (λ (n : ℕ). AreGone (n + 1) Abandoned (holds_by_spans r.route.course r.spans) gone) c.edits-edit.ensures
    (subst (λ (rows : List Span). AreGone (c.edits-edit.result + 1) Abandoned (holds_by_spans r.route.course rows) gone) c.rows.ensures.rows c.in_ok-gone.ensures) in
    let names = c.in_ok-names.ensures ∙ ap (λ (refs : List Referent). names_of refs) c.as_slice.ensures in
    subst (λ (p : Plan). IsPlanOf (verb.Close c.args.route) i p) (sym (c.closing.ensures ∙ ap (closing c.args.route c.in_ok-keys.keys gone c.in_ok-freed.freed) names))
    (closes c.args.route i r gone c.in_ok-keys.keys c.in_ok-keys.ensures c.prove_sound.ensures c.in_ok-route_row.ensures.found led c.in_ok-freed.freed c.in_ok-freed.ensures.course c.in_ok-freed.ensures.filled)
