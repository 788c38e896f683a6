use Rattle.std.proofs.Common.{rules}
use Rattle.csv.specs.Records.{fields_of}
use Rattle.lrs_sheet_questions.proofs.Whole.{bad-header, empty-sheet, empty-writes, keeps-same, rows-write, under-header, unread, unread-writes}
use Rattle.lrs_sheet_questions.proofs.run.run.Goals as goal

pub returns-in-Err : goal.returns-in-Err
returns-in-Err g c = record {
  runs = unread c.args.desk.now.image g.R.Read.remaining c.open-rows.result (g.R.Read.remaining c.args.reader) (g.W.Write.contents c.args.writer.now) c.in-Err.fault c.open-rows.ensures.first c.in-Err.ensures.faults;
  writes = unread-writes c.args.desk.now.image g.R.Read.remaining c.open-rows.result (g.W.Write.contents c.args.writer.now) c.in-Err.fault c.in-Err.ensures.faults;
}

pub returns-in-Ok-false : goal.returns-in-Ok-false
returns-in-Ok-false g c = record {
  runs = empty-sheet c.args.desk.now.image g.R.Read.remaining c.open-rows.result (g.R.Read.remaining c.args.reader) (g.W.Write.contents c.args.writer.now) c.default.result c.open-rows.ensures.start (c.in-Ok-false.ensures.ended (search rules)) (search rules);
  writes = empty-writes c.args.desk.now.image (g.W.Write.contents c.args.writer.now) c.default.result (search rules);
}

pub returns-then-not-is_question_header : goal.returns-then-not-is_question_header
returns-then-not-is_question_header g c = record {
  runs = bad-header c.args.desk.now.image g.R.Read.remaining c.open-rows.result c.next_row.new.rows (g.R.Read.remaining c.args.reader) (g.W.Write.contents c.args.writer.now) (fields_of c.next_row.new.row) c.open-rows.ensures.start (c.in-Ok-true.ensures.found (search rules)) (search rules);
  writes = keeps-same (g.W.Write.contents c.args.writer.now);
}

pub returns : goal.returns
returns g c = record {
  runs = under-header c.args.desk.now.image g.R.Read.remaining c.open-rows.result c.next_row.new.rows (g.R.Read.remaining c.args.reader) (g.W.Write.contents c.args.writer.now) (g.W.Write.contents c.ask_rows.new.writer) (fields_of c.next_row.new.row) c.ask_rows.result
      c.open-rows.ensures.start (c.in-Ok-true.ensures.found (search rules)) (search rules) c.ask_rows.ensures;
  writes = rows-write c.args.desk.now.image g.R.Read.remaining c.next_row.new.rows (g.W.Write.contents c.args.writer.now) (g.W.Write.contents c.ask_rows.new.writer) c.ask_rows.result c.ask_rows.ensures;
}
