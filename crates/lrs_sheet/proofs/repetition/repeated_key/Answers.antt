use Rattle.std.proofs.Common.{rules}
use Rattle.csv.specs.Records.{fields_of}
use Rattle.lrs_sheet.proofs.Repeating.{told_empty, told_other, told_under}
use Rattle.lrs_sheet.proofs.repetition.repeated_key.Goals as goal

pub returns-in-Ok-false-clause-told : goal.returns-in-Ok-false-clause-told
returns-in-Ok-false-clause-told g c = told_empty c.args.sheet g.R.Read.remaining c.open-rows.result (g.R.Read.remaining c.args.reader) c.open-rows.ensures.start (c.in-Ok-false.ensures.ended (search rules))

pub returns-then-not-is_header-clause-told : goal.returns-then-not-is_header-clause-told
returns-then-not-is_header-clause-told g c = told_other c.args.sheet g.R.Read.remaining c.open-rows.result c.next_row.new.rows (g.R.Read.remaining c.args.reader) (fields_of c.next_row.new.row)
    c.open-rows.ensures.start (c.in-Ok-true.ensures.found (search rules)) (search rules)

pub returns-clause-told : goal.returns-clause-told
returns-clause-told g c = told_under c.args.sheet g.R.Read.remaining c.open-rows.result c.next_row.new.rows (g.R.Read.remaining c.args.reader) (fields_of c.next_row.new.row) c.search_keys.result
    c.open-rows.ensures.start (c.in-Ok-true.ensures.found (search rules)) (search rules) c.search_keys.ensures.found
