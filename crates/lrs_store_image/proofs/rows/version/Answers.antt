use Rattle.std.proofs.Common.{true, sym, ap, rules}
use Rattle.lrs_machine.specs.declared.table.Table.TheVariants as table
use Rattle.lrs_store_tables.specs.Contents.Content.{read}
use Rattle.lrs_store_tables.specs.StoredRows.{version_in}
use Rattle.lrs_store_image.proofs.OriginRows.{not_one}
use Rattle.lrs_store_image.proofs.rows.version.Goals as goal

pub returns-then-not-is_one : goal.returns-then-not-is_one
returns-then-not-is_one c = sym (ap (λ o. read table.Version o (λ v. true)) (not_one version_in c.args.rows.now (search rules)))
