use Rattle.std.proofs.Common.{rules}
use Rattle.std.proofs.lemmas.Result.{err_from_is_err_and}
use Rattle.csv.specs.Records.{fields_of}
use Rattle.lrs_sheet.proofs.Running.{empty-run, headless-run, run-under, unread-run, unskipped-run}
use Rattle.lrs_sheet.proofs.run.run_groups.Goals as goal

pub returns-in_err-next_row : goal.returns-in_err-next_row
returns-in_err-next_row g c =
    let p = err_from_is_err_and c.from_residual.result c.from_residual.ensures.1 in
    rw (p.1, p.2) (unread-run c.args.run g.R.Read.remaining (g.R.Read.remaining c.args.reader) c.open-rows.result c.args.desk.now (g.W.Write.contents c.args.writer.now) _ c.prove_kept.ensures.kept c.open-rows.ensures.first c.in_err-next_row.ensures.faults)

pub returns-then-not-branch : goal.returns-then-not-branch
returns-then-not-branch g c = empty-run c.args.run g.R.Read.remaining (g.R.Read.remaining c.args.reader) c.open-rows.result c.args.desk.now (g.W.Write.contents c.args.writer.now) c.default.result
    c.prove_kept.ensures.kept c.open-rows.ensures.start (c.in_ok-next_row.ensures.ended c.if-not-branch.true) (search rules)

pub returns-then-not-is_header : goal.returns-then-not-is_header
returns-then-not-is_header g c = headless-run c.args.run g.R.Read.remaining (g.R.Read.remaining c.args.reader) c.open-rows.result c.next_row.new.rows c.args.desk.now (g.W.Write.contents c.args.writer.now) (fields_of c.next_row.new.row)
    c.prove_kept.ensures.kept c.open-rows.ensures.start (c.in_ok-next_row.ensures.found c.if-not-branch.false) (search rules)

pub returns-in_err-skip_rows : goal.returns-in_err-skip_rows
returns-in_err-skip_rows g c =
    let p = err_from_is_err_and c.from_residual-in_err-skip_rows.result c.from_residual-in_err-skip_rows.ensures.1 in
    rw (p.1, p.2) (unskipped-run c.args.run g.R.Read.remaining (g.R.Read.remaining c.args.reader) c.open-rows.result c.args.desk.now (g.W.Write.contents c.args.writer.now) _ c.prove_kept.ensures.kept c.open-rows.ensures.first c.in_err-skip_rows.ensures.faults)

pub returns : goal.returns
returns g c = run-under c.args.run g.R.Read.remaining (g.R.Read.remaining c.args.reader) c.open-rows.result c.next_row.new.rows c.skip_rows.new.rows c.args.desk.now c.do_rows-ended.new.desk
    (g.W.Write.contents c.args.writer.now) (g.W.Write.contents c.do_rows-ended.new.writer) (fields_of c.next_row.new.row) c.do_rows-ended.result
    c.prove_kept-2.ensures.kept c.open-rows.ensures.start (c.in_ok-next_row.ensures.found c.if-not-branch.false) (search rules) c.in_ok-skip_rows.ensures.gave c.do_rows-ended.ensures
