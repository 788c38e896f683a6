use Rattle.std.proofs.Common.{rules}
use Rattle.csv.specs.Records.{fields_of}
use Rattle.lrs_sheet_advice.proofs.TidyRows.{told_empty, told_other, told_under}
use Rattle.lrs_sheet_advice.proofs.tidy_sheet.sheet.is_tidy_sheet.Goals as goal

pub returns-in-Ok-false : goal.returns-in-Ok-false
returns-in-Ok-false g c = told_empty c.args.kind g.R.Read.remaining c.open-rows.result (g.R.Read.remaining c.args.reader) c.open-rows.ensures.start (c.in-Ok-false.ensures.ended (search rules))

pub returns-then-not-is_header : goal.returns-then-not-is_header
returns-then-not-is_header g c = told_other c.args.kind g.R.Read.remaining c.open-rows.result c.next_row.new.rows (g.R.Read.remaining c.args.reader) (fields_of c.next_row.new.row)
    c.open-rows.ensures.start (c.in-Ok-true.ensures.found (search rules)) (search rules)

pub returns : goal.returns
returns g c = told_under c.args.kind g.R.Read.remaining c.open-rows.result c.next_row.new.rows (g.R.Read.remaining c.args.reader) (fields_of c.next_row.new.row) c.are_tidy.result
    c.open-rows.ensures.start (c.in-Ok-true.ensures.found (search rules)) (search rules) c.are_tidy.ensures
