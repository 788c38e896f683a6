use Rattle.std.proofs.Common.{rules, ◌≡◌, Ok, Err, sym, subst, ◌∙◌}
use Rattle.std.specs.Prelude.{map, true}
use Rattle.lrs_machine.specs.declared.table.Table.TheVariants as table
use Rattle.lrs_store_tables.specs.Contents.Content.{read, version_of}
use Rattle.lrs_store_tables.specs.StoredRows.{version_in}
use Rattle.lrs_store_image.specs.Readings.{entries_read}
use Rattle.lrs_store_image.specs.Steps.{tables_with}
use Rattle.lrs_store_image.proofs.InSteps.{in_steps, no_routes, is_unsound}
use Rattle.lrs_store_image.proofs.steps.read_registers.Goals as goal

pub returns-in_err-routes-clause-unsound : goal.returns-in_err-routes-clause-unsound
returns-in_err-routes-clause-unsound c u is_err l e =
    let t = tables_with c.args.named c.args.routes l e in
    let n = c.in_ok-named.named in
    let v = subst (λ rows. read table.Version (version_of (map version_in rows)) (λ v. true) ≡ Ok c.in-Ok.version) c.as_slice.ensures.value (sym c.version.ensures ∙ c.in-Ok.is) in
    let is : c.from_residual-in_err-routes.result ≡ Err c.in_err-routes.field-0.0 = search rules in
    no_routes t c.in-Ok.version v n c.in_ok-named.ensures.named u
    (is_unsound (entries_read n t.piece t.mark t.ref t.span) c.read_entries.result c.from_residual-in_err-routes.result c.in_err-routes.field-0.0 u c.in_err-routes.was is is_err c.read_entries.ensures.entries)

pub returns-clause-image : goal.returns-clause-image
returns-clause-image c l e =
    let t = tables_with c.args.named c.args.routes l e in
    let v = subst (λ rows. read table.Version (version_of (map version_in rows)) (λ v. true) ≡ Ok c.in-Ok.version) c.as_slice.ensures.value (sym c.version.ensures ∙ c.in-Ok.is) in
    in_steps t c.in-Ok.version v c.in_ok-named.named c.in_ok-named.ensures.named c.in_ok-routes.routes c.in_ok-routes.ensures.entries
