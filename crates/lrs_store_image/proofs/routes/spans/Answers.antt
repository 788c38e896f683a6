use Rattle.lrs_store_tables.specs.StoredRows.{span_in}
use Rattle.std.proofs.Common.{◌≡◌, ◌∙◌, true, Ok, map, ap, sym, subst}
use Rattle.lrs_machine.specs.declared.table.Table.TheVariants as table
use Rattle.lrs_machine.specs.Sound.{are_courses}
use Rattle.lrs_store_tables.specs.Contents.Content.{read, entries_of}
use Rattle.lrs_store_image.specs.DecodedRoutes.Spans.{courses_over, are_sound}
use Rattle.lrs_store_image.proofs.Loaded.{reads_of, reads_along, ok_at}
use Rattle.lrs_store_image.proofs.routes.spans.Goals as goal

pub returns : goal.returns
returns c =
    let same = c.deref.ensures.value ∙ c.in_ok-cells.ensures ∙ ap (map span_in) c.as_slice.ensures.value in
    let into = c.into_vec.ensures in
    record {
      entries = λ links fit.
          let test = are_sound links c.args.classes.now c.args.assets.now in
          let here = subst (λ rs. are_courses links (courses_over rs) ≡ true) (sym into) fit in
          let found = ok_at (λ links. are_courses links (courses_over c.into_vec.result.items) ≡ true)
          (λ links entries. read table.Span (entries_of c.args.assets.now c.deref.result.now c.into_vec.result.items) (are_sound links c.args.classes.now c.args.assets.now) ≡ Ok entries.items)
          c.read_spans.result c.read_spans.ensures.entries links here in
          reads_along _ _ c.as_loaded.result (λ j. read table.Span (entries_of c.args.assets.now (same j) (into j)) test)
          (reads_of _ (read table.Span (entries_of c.args.assets.now c.deref.result.now c.into_vec.result.items) test) c.read_spans.result c.as_loaded.result c.as_loaded.ensures found (λ t h. c.read_spans.ensures.unsound t h links here));
    }
