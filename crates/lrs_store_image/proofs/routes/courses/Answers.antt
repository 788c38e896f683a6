use Rattle.lrs_store_tables.specs.StoredRows.{piece_in}
use Rattle.std.proofs.Common.{map, ap, ◌∙◌}
use Rattle.lrs_machine.specs.declared.table.Table.TheVariants as table
use Rattle.lrs_machine.specs.Sound.{are_courses}
use Rattle.lrs_store_tables.specs.Contents.Content.{read, courses_of}
use Rattle.lrs_store_image.proofs.Loaded.{reads_of, reads_along}
use Rattle.lrs_store_image.proofs.routes.courses.Goals as goal

pub returns-clause-courses : goal.returns-clause-courses
returns-clause-courses c =
    let same = c.deref.ensures.value ∙ c.in_ok-cells.ensures ∙ ap (map piece_in) c.as_slice.ensures.value in
    reads_along _ _ c.as_loaded.result (λ j. read table.Piece (courses_of (same j)) (are_courses c.args.links.now))
    (reads_of _ (read table.Piece (courses_of c.deref.result.now) (are_courses c.args.links.now)) c.read_courses.result c.as_loaded.result c.as_loaded.ensures c.read_courses.ensures.courses c.read_courses.ensures.unsound)
