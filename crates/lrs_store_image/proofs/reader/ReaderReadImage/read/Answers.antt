use Rattle.std.proofs.Common.{rules, ◌≡◌, Err, map, ◌∙◌}
use Rattle.lrs_store_tables.specs.StoredRows.{entered_in, gone_in}
use Rattle.lrs_store_tables.specs.Rows.{tables_of}
use Rattle.lrs_store_image.specs.Steps.{LedgerTables, edits_in, content_of_held}
use Rattle.lrs_store_image.proofs.OfContent.{told, told_first, told_second}
use Rattle.lrs_store_image.proofs.reader.ReaderReadImage.read.Goals as goal

pub returns-in_err-begun : goal.returns-in_err-begun
returns-in_err-begun c =
    let rows = c.args.rows in
    let l : LedgerTables = record { entered = map entered_in rows.ledgers.entered.items; gone = map gone_in rows.ledgers.gone.items } in
    let e = edits_in rows.ledgers.edit.items rows.ledgers.origin.items in
    let is : c.from_residual.result ≡ Err c.in_err-begun.field-0.0 = search rules in
    told_first rows.named rows.routes l e c.begin.result c.from_residual.result c.in_err-begun.field-0.0 c.in_err-begun.was is c.begin.ensures.begins

pub returns-in_err-held : goal.returns-in_err-held
returns-in_err-held c =
    let rows = c.args.rows in
    let l : LedgerTables = record { entered = map entered_in rows.ledgers.entered.items; gone = map gone_in rows.ledgers.gone.items } in
    let e = edits_in rows.ledgers.edit.items rows.ledgers.origin.items in
    let is : c.from_residual-in_err-held.result ≡ Err c.in_err-held.field-0.0 = search rules in
    told_second c.in_ok-begun.begun l (tables_of rows) e c.with_ledgers.result c.from_residual-in_err-held.result c.in_err-held.field-0.0 (c.in_ok-begun.ensures.begins l e) c.in_err-held.was is c.with_ledgers.ensures.holds

pub returns : goal.returns
returns c =
    let rows = c.args.rows in
    let l : LedgerTables = record { entered = map entered_in rows.ledgers.entered.items; gone = map gone_in rows.ledgers.gone.items } in
    let e = edits_in rows.ledgers.edit.items rows.ledgers.origin.items in
    told (tables_of rows) (content_of_held c.in_ok-held.held e) c.finish.result (c.in_ok-begun.ensures.begins l e ∙ c.in_ok-held.ensures.holds e) c.finish.ensures
