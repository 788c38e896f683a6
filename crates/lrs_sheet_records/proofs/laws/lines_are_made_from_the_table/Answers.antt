use Rattle.lrs_sheet_records.proofs.TableLines.{lines_are_the_tables}
use Rattle.lrs_sheet_records.proofs.laws.lines_are_made_from_the_table.Goals as goal

pub returns : goal.returns
returns c = lines_are_the_tables
