use Rattle.std.proofs.Common.{rules, ◌≡◌, Err, map}
use Rattle.lrs_store_tables.specs.StoredRows.{entered_in, gone_in}
use Rattle.lrs_store_image.proofs.OfContent.{enters_not}
use Rattle.lrs_store_image.proofs.steps.with_ledgers.Goals as goal

pub returns-in_err-read_ledgers-in-Read-clause-holds : goal.returns-in_err-read_ledgers-in-Read-clause-holds
returns-in_err-read_ledgers-in-Read-clause-holds c =
    let is : c.from_residual.result ≡ Err c.in_err-read_ledgers-in-Read.field-0.0 = search rules in
    let h = enters_not c.in-Read.first (record { entered = map entered_in c.args.entered.items; gone = map gone_in c.args.gone.items }) c.read_ledgers.result c.from_residual.result c.in_err-read_ledgers-in-Read.field-0.0
    c.in_err-read_ledgers-in-Read.was is c.read_ledgers.ensures.unsound c.read_ledgers.ensures.never in
    search rules
