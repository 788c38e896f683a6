use Rattle.std.proofs.Common.{rules}
use Rattle.csv.specs.Records.{fields_of}
use Rattle.lrs_machine.specs.Image.{state_of}
use Rattle.lrs_sheet.proofs.Resuming.{decided_by, none_of_empty, none_of_other}
use Rattle.lrs_sheet.proofs.resumption.last_edit.Goals as goal

pub returns-in-Ok-false-clause-decided : goal.returns-in-Ok-false-clause-decided
returns-in-Ok-false-clause-decided g c = none_of_empty c.args.sheet g.R.Read.remaining c.open-rows.result (g.R.Read.remaining c.args.reader) (state_of c.args.desk.now.image)
    c.open-rows.ensures.start (c.in-Ok-false.ensures.ended (search rules))

pub returns-then-not-is_header-clause-decided : goal.returns-then-not-is_header-clause-decided
returns-then-not-is_header-clause-decided g c = none_of_other c.args.sheet g.R.Read.remaining c.open-rows.result c.next_row.new.rows (g.R.Read.remaining c.args.reader) (state_of c.args.desk.now.image) (fields_of c.next_row.new.row)
    c.open-rows.ensures.start (c.in-Ok-true.ensures.found (search rules)) (search rules)

pub returns-clause-decided : goal.returns-clause-decided
returns-clause-decided g c = decided_by c.args.sheet g.R.Read.remaining c.open-rows.result c.next_row.new.rows (g.R.Read.remaining c.args.reader) (state_of c.args.desk.now.image) (fields_of c.next_row.new.row) c.search.result
    c.open-rows.ensures.start (c.in-Ok-true.ensures.found (search rules)) c.search.ensures.found
