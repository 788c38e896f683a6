use Rattle.std.proofs.Common.{◌≡◌, ap, sym, ◌∙◌, true}
use Rattle.sqlite_schema.specs.declared.schema.Schema.{Schema}
use Rattle.lrs_store_tables.specs.Schema.{inventory}
use Rattle.lrs_store_files.proofs.PlainTables.{first_plain}
use Rattle.lrs_store_files.proofs.FirstTables.{cut_indexes, known_first, known_other}
use Rattle.lrs_store_files.proofs.table_list.which.Goals as goal

pub slice_bounds-indexes-end : goal.slice_bounds-indexes-end
slice_bounds-indexes-end c =
    let indexes : c.as_slice-2.result.now ≡ inventory.indexes = c.as_slice-2.ensures ∙ ap (λ (s : Schema). s.indexes) c.requires.wanted in
    rw indexes (sym (cut_indexes c.len-count.result c.if-count-gt-TABLES.false))

pub returns-then-has_only : goal.returns-then-has_only
returns-then-has_only c =
    let tables : c.as_slice.result.now ≡ inventory.tables = c.as_slice.ensures ∙ ap (λ (s : Schema). s.tables) c.requires.wanted in
    let indexes : c.as_slice-2.result.now ≡ inventory.indexes = c.as_slice-2.ensures ∙ ap (λ (s : Schema). s.indexes) c.requires.wanted in
    let is = (c.has_only.ensures.0 c.if-has_only.true).0 in
    known_first c.args.found.now c.len-count.result c.if-count-gt-TABLES.false (rw (← tables, ← indexes) is)

pub returns-else-has_only : goal.returns-else-has_only
returns-else-has_only c =
    let tables : c.as_slice.result.now ≡ inventory.tables = c.as_slice.ensures ∙ ap (λ (s : Schema). s.tables) c.requires.wanted in
    let indexes : c.as_slice-2.result.now ≡ inventory.indexes = c.as_slice-2.ensures ∙ ap (λ (s : Schema). s.indexes) c.requires.wanted in
    known_other c.args.found.now c.len-count.result c.len-count.ensures (λ is. let yes : c.has_only.result ≡ true = c.has_only.ensures.1 (rw (tables, indexes) (is, first_plain c.len-count.result)) in let no = c.if-has_only.false in cc)
