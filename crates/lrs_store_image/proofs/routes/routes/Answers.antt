use Rattle.lrs_store_tables.specs.StoredRows.{ref_in}
use Rattle.std.proofs.Common.{map, ap, ◌∙◌}
use Rattle.lrs_machine.specs.declared.table.Table.TheVariants as table
use Rattle.lrs_store_tables.specs.Contents.Content.{read, routes_of}
use Rattle.lrs_store_image.specs.DecodedRoutes.Referents.{are_all_referred}
use Rattle.lrs_store_image.proofs.Loaded.{reads_of, reads_along}
use Rattle.lrs_store_image.proofs.routes.routes.Goals as goal

pub returns-clause-routes : goal.returns-clause-routes
returns-clause-routes c =
    let same = c.deref.ensures.value ∙ c.in_ok-cells.ensures ∙ ap (map ref_in) c.as_slice.ensures.value in
    let into = c.into_vec.ensures in
    reads_along _ _ c.as_loaded.result (λ j. read table.Ref (routes_of (same j) (into j)) are_all_referred)
    (reads_of _ (read table.Ref (routes_of c.deref.result.now c.into_vec.result.items) are_all_referred) c.read_referents.result c.as_loaded.result c.as_loaded.ensures c.read_referents.ensures.routes c.read_referents.ensures.unsound)
