use Rattle.std.proofs.Common.{◌≡◌, ◌∙◌, Ok, map, ap, ap₂, subst}
use Rattle.lrs_machine.specs.declared.table.Table.TheVariants as table
use Rattle.lrs_machine.specs.Sound.{are_courses}
use Rattle.lrs_store_tables.specs.Contents.Content.{read, courses_of, entries_of}
use Rattle.lrs_store_tables.specs.StoredRows.{piece_in, span_in}
use Rattle.lrs_store_image.specs.DecodedRoutes.Marks.{are_route_courses}
use Rattle.lrs_store_image.specs.DecodedRoutes.Spans.{are_sound}
use Rattle.lrs_store_image.proofs.Chained.{named_rise, read_passes, leads}
use Rattle.lrs_store_image.proofs.Loaded.{reads_along}
use Rattle.lrs_store_image.proofs.OfEntries.{courses_read, rows_read}
use Rattle.lrs_store_image.proofs.route_lists.read_entries.Goals as goal

pub spans-requires-clause-routes : goal.spans-requires-clause-routes
spans-requires-clause-routes c = named_rise c.in_ok-routes.routes (ap are_route_courses (c.in_ok-routes.ensures.courses ∙ c.in_ok-measured.ensures.courses) ∙ c.in_ok-courses.ensures.fit)

pub returns : goal.returns
returns c =
    let n = c.args.named.now in
    let routes = c.in_ok-routes.routes in
    let said = map span_in c.args.rows.span.items in
    let pieces = courses_of (map piece_in c.args.rows.piece.items) in
    let piece = subst (λ l. read table.Piece pieces (are_courses l) ≡ Ok c.in_ok-courses.courses) c.as_slice.ensures c.in_ok-courses.ensures.courses in
    let fit = ap (are_courses n.links) (c.in_ok-routes.ensures.courses ∙ c.in_ok-measured.ensures.courses) ∙ read_passes table.Piece pieces (are_courses n.links) c.in_ok-courses.courses piece in
    let last = reads_along _ _ c.spans.result
    (ap₂ (λ classes assets. read table.Span (entries_of assets said routes) (are_sound n.links classes assets)) c.as_slice-classes.ensures c.as_slice-assets.ensures)
    (c.spans.ensures.entries n.links fit) in
    record {
      entries = leads _ _ c.in_ok-courses.courses _ piece
          (leads _ _ c.in_ok-measured.measured _ c.in_ok-measured.ensures.measured (leads _ _ routes _ c.in_ok-routes.ensures.routes last));
      courses = courses_read n.links n.classes n.assets said routes c.spans.result last fit;
      spans = rows_read n.links n.classes n.assets said routes c.spans.result last;
    }
