use Rattle.lrs_sheet_records.proofs.ReadRows.{known-start}
use Rattle.lrs_sheet_records.proofs.rows.open.Goals as goal

pub returns-clause-start : goal.returns-clause-start
returns-clause-start g c = known-start (g.R.Read.remaining c.args.reader) _ _ c.from_reader.ensures.source c.from_reader.ensures.state
