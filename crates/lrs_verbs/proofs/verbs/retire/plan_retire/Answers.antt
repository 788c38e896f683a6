use Rattle.std.proofs.Common.{ℕ, Err, sym, ap, subst, ◌∙◌}
use Rattle.std.specs.List.{find}
use Rattle.std.proofs.lemmas.Result.{err_from_is_err_and}
use Rattle.lrs_inventory.specs.Prelude.{Name, is_named}
use Rattle.lrs_machine.specs.declared.command.Command.TheVariants as verb
use Rattle.lrs_image_laws.proofs.Naming.{found_in}
use Rattle.lrs_inventory.specs.declared.plan.Stop.{Stop}
use Rattle.lrs_inventory.specs.Plans.{Plans}
use Rattle.lrs_verbs.proofs.Retirement.{found_asset, its_kind, refuses_unknown, refuses_class, refuses_route}
use Rattle.lrs_verbs.proofs.verbs.retire.plan_retire.Goals as goal

pub returns-in-None : goal.returns-in-None
returns-in-None c = refuses_unknown c.args.inventory.now c.args.asset c.args.route c.args.location c.get.result c.get.ensures.number c.in-None.ensures

pub returns-in-None-class : goal.returns-in-None-class
returns-in-None-class c =
    let i = c.args.inventory.now in
    let y = c.in-Some.known in
    let found = found_asset i c.get.result c.args.asset y c.get.ensures.number c.in-Some.ensures in
    refuses_class i c.args.asset c.args.route c.args.location (its_kind i c.args.asset y found.0 found.1 ∙ sym c.in-None-class.ensures)

pub returns-in_err-route_row-in-Some-class : goal.returns-in_err-route_row-in-Some-class
returns-in_err-route_row-in-Some-class c =
    let i = c.args.inventory.now in
    let y = c.in-Some.known in
    let command = verb.Retire c.args.asset c.args.route c.args.location in
    let found = found_asset i c.get.result c.args.asset y c.get.ensures.number c.in-Some.ensures in
    let e = err_from_is_err_and c.from_residual.result c.from_residual.ensures.1 in
    let missing = c.in_err-route_row-in-Some-class.ensures.missing in
    rw (e.1, e.2) (subst (λ (why : Stop). Plans command i (Err why)) (sym missing.0)
    (refuses_route i c.args.asset c.args.route c.args.location c.in-Some-class.kind (its_kind i c.args.asset y found.0 found.1 ∙ sym c.in-Some-class.ensures) missing.1))

pub retire_on-requires : goal.retire_on-requires
retire_on-requires c =
    let i = c.args.inventory.now in
    let r = c.in_ok-route_row-in-Some-class.route_row.now in
    let at = c.in_ok-route_row-in-Some-class.ensures.found in
    record {
      known = record {
        known = (found_asset i c.get.result c.args.asset c.in-Some.known c.get.ensures.number c.in-Some.ensures).1;
        class = sym c.in-Some-class.ensures;
        route = ap (λ (n : Name). find (is_named n) i.routes) (found_in c.args.route r i.routes at).1 ∙ at;
      };
    }

pub returns-in_ok-route_row-in-Some-class : goal.returns-in_ok-route_row-in-Some-class
returns-in_ok-route_row-in-Some-class c =
    let i = c.args.inventory.now in
    let y = c.in-Some.known in
    let r = c.in_ok-route_row-in-Some-class.route_row.now in
    let own_name = (found_in c.args.route r i.routes c.in_ok-route_row-in-Some-class.ensures.found).1 in
    let found = found_asset i c.get.result c.args.asset y c.get.ensures.number c.in-Some.ensures in
    subst (λ (n : ℕ). Plans (verb.Retire n c.args.route c.args.location) i c.retire_on.result) found.0
    (subst (λ (name : Name). Plans (verb.Retire y.number name c.args.location) i c.retire_on.result) own_name c.retire_on.ensures)
