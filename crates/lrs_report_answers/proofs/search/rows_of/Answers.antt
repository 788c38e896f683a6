use Rattle.std.proofs.Common.{◌≡◌, Bool, List, filter, nat_eq, ap, sym, subst, ◌∙◌}
use Rattle.std.specs.List.{flat_map}
use Rattle.std.specs.List.Sorted.{IsNonDecreasingBy}
use Rattle.std.proofs.lemmas.Result.{IfOk-weaker}
use Rattle.lrs_events.specs.declared.part.Part.{Part}
use Rattle.lrs_machine.specs.declared.image.Image.{Image}
use Rattle.lrs_report_answers.specs.AssetStretches.{rows_on}
use Rattle.lrs_inventory.specs.Changes.{route_on}
use Rattle.lrs_report_answers.specs.Ground.{RunsOverPart}
use Rattle.lrs_report_answers.specs.NamedRows.{rows_on_named}
use Rattle.lrs_report_answers.proofs.Parted.{ledger_rises}
use Rattle.lrs_report_answers.proofs.Everywhere.{rows_everywhere}
use Rattle.lrs_report_answers.proofs.search.rows_of.Goals as goal

pub parts_of_edit-entered-requires : goal.parts_of_edit-entered-requires
parts_of_edit-entered-requires c =
    let ledger = c.deref.ensures.value ∙ ap (λ (i : Image). i.entered) c.kept.ensures.image in
    subst (IsNonDecreasingBy (λ (p : Part). p.edit)) (sym ledger) (ledger_rises c.args.inventory.now c.kept.ensures.sound)

pub returns : goal.returns
returns c =
    let i = c.args.inventory.now in
    let a = c.args.asset.now in
    let names = c.in_ok-routes.routes in
    let own : Part → Bool = λ part. nat_eq part.edit a.entered_by in
    let ledger = c.deref.ensures.value ∙ ap (λ (j : Image). j.entered) c.kept.ensures.image in
    let parts = c.parts_of_edit-entered.ensures ∙ ap (filter own) ledger in
    IfOk-weaker c.rows_on_routes.result (λ found. found ≡ flat_map (rows_on_named a.class a.number i.routes) names.keys) (λ found. found ≡ flat_map (rows_on a.class a.number) i.routes)
    (λ found h. h
    ∙ rows_everywhere i a names c.kept.ensures.sound c.requires.known c.rows_on_routes.ensures.order
    (λ route over. (c.in_ok-routes.ensures route).1 (subst (λ (ps : List Part). RunsOverPart (route_on i.routes) ps route) (sym parts) over)))
    c.rows_on_routes.ensures.rows
