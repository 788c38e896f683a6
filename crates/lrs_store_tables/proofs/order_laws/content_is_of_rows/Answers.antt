use Rattle.lrs_store_tables.proofs.Contents.Stored.{content_is_of_rows}
use Rattle.lrs_store_tables.proofs.order_laws.content_is_of_rows.Goals as goal

pub returns : goal.returns
returns c = content_is_of_rows
