use Rattle.lrs_store_tables.specs.StoredRows.{mark_in}
use Rattle.std.proofs.Common.{map, ap, ◌∙◌}
use Rattle.lrs_machine.specs.declared.table.Table.TheVariants as table
use Rattle.lrs_store_tables.specs.Contents.Content.{read, measured_of}
use Rattle.lrs_store_image.specs.DecodedRoutes.Marks.{are_all_measured}
use Rattle.lrs_store_image.proofs.Loaded.{reads_of, reads_along}
use Rattle.lrs_store_image.proofs.routes.measured.Goals as goal

pub returns-clause-measured : goal.returns-clause-measured
returns-clause-measured c =
    let same = c.deref.ensures.value ∙ c.in_ok-cells.ensures ∙ ap (map mark_in) c.as_slice.ensures.value in
    let into = c.into_vec.ensures in
    reads_along _ _ c.as_loaded.result (λ j. read table.Mark (measured_of (same j) (into j)) are_all_measured)
    (reads_of _ (read table.Mark (measured_of c.deref.result.now c.into_vec.result.items) are_all_measured) c.read_marks.result c.as_loaded.result c.as_loaded.ensures c.read_marks.ensures.measured c.read_marks.ensures.unsound)
