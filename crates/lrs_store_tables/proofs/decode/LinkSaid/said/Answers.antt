use Rattle.lrs_store_tables.specs.StoredRows.{link_in}
use Rattle.lrs_store_tables.proofs.SaidRows.{link_said}
use Rattle.lrs_store_tables.proofs.decode.LinkSaid.said.Goals as goal

pub returns : goal.returns
returns c = link_said (link_in c.args.row.now) c.in_ok-number.number c.in_ok-length.length c.in_ok-number.ensures c.in_ok-length.ensures _
