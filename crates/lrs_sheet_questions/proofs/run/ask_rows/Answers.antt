use Rattle.std.proofs.Common.{rules, arith}
use Rattle.csv.specs.Records.{fields_of}
use Rattle.lrs_sheet_questions.proofs.Answered.{all-answered, more-answered, start-answered, stop-ask, stop-read}
use Rattle.lrs_sheet_questions.proofs.run.ask_rows.Goals as goal
use Rattle.lrs_sheet_records.specs.declared.fault.SheetFault.TheVariants as fault

pub loop-turn-init : goal.loop-turn-init
loop-turn-init g c = start-answered c.args.desk.now.image g.R.Read.remaining c.args.rows.now (g.W.Write.contents c.args.writer.now) c.default-tally.result c.requires.plain c.requires.wide (search rules)

pub returns-in-Ok-false : goal.returns-in-Ok-false
returns-in-Ok-false g c = all-answered c.args.desk.now.image g.R.Read.remaining c.args.rows.now c.loop-turn.rows (g.W.Write.contents c.args.writer.now) (g.W.Write.contents c.loop-turn.writer) c.loop-turn.tally c.loop-turn._turn c.loop-turn.invariant (c.in-Ok-false.ensures.ended (search rules)) (omega arith)

pub returns-in-Ok-false-next_row : goal.returns-in-Ok-false-next_row
returns-in-Ok-false-next_row g c = all-answered c.args.desk.now.image g.R.Read.remaining c.args.rows.now c.loop-turn.rows (g.W.Write.contents c.args.writer.now) (g.W.Write.contents c.loop-turn.writer) c.loop-turn.tally c.loop-turn._turn c.loop-turn.invariant (c.in-Ok-false-next_row.ensures.ended (search rules)) (omega arith)

pub returns-in-Err : goal.returns-in-Err
returns-in-Err g c = stop-read c.args.desk.now.image g.R.Read.remaining c.args.rows.now c.loop-turn.rows (g.W.Write.contents c.args.writer.now) (g.W.Write.contents c.loop-turn.writer) c.loop-turn.tally c.loop-turn._turn c.in-Err.fault c.loop-turn.invariant c.in-Err.ensures.faults

pub returns-in-Err-next_row : goal.returns-in-Err-next_row
returns-in-Err-next_row g c = stop-read c.args.desk.now.image g.R.Read.remaining c.args.rows.now c.loop-turn.rows (g.W.Write.contents c.args.writer.now) (g.W.Write.contents c.loop-turn.writer) c.loop-turn.tally c.loop-turn._turn c.in-Err-next_row.fault c.loop-turn.invariant c.in-Err-next_row.ensures.faults

pub returns-in-Ok-true-next_row : goal.returns-in-Ok-true-next_row
returns-in-Ok-true-next_row g c = stop-read c.args.desk.now.image g.R.Read.remaining c.args.rows.now c.loop-turn.rows (g.W.Write.contents c.args.writer.now) (g.W.Write.contents c.loop-turn.writer) c.loop-turn.tally c.loop-turn._turn fault.Read c.loop-turn.invariant tt

pub returns-in-Err-answer_row : goal.returns-in-Err-answer_row
returns-in-Err-answer_row g c = stop-ask c.args.desk.now.image g.R.Read.remaining c.args.rows.now c.loop-turn.rows (g.W.Write.contents c.args.writer.now) (g.W.Write.contents c.loop-turn.writer) (g.W.Write.contents c.answer_row.new.writer) c.loop-turn.tally c.loop-turn._turn c.in-Err-answer_row.fault c.loop-turn.invariant c.in-Err-answer_row.ensures.faults

pub loop-turn-preserved : goal.loop-turn-preserved
loop-turn-preserved g c =
    let found = c.in-Ok-true.field-0-test in
    let wide = rw c.loop-turn.invariant.wide at (c.in-Ok-true.ensures.same_width found) in
    more-answered c.args.desk.now.image g.R.Read.remaining c.args.rows.now c.loop-turn.rows c.next_row.new.rows (g.W.Write.contents c.args.writer.now) (g.W.Write.contents c.loop-turn.writer) (g.W.Write.contents c.answer_row.new.writer) (g.W.Write.contents c.send.new.writer) c.loop-turn.tally c.count.new.self c.loop-turn._turn (fields_of c.next_row.new.row) c.in-Ok.is_answer
    c.loop-turn.invariant (c.in-Ok-true.ensures.plain found) (c.in-Ok-true.ensures.width found) wide (c.in-Ok-true.ensures.found found) c.in-Ok.ensures.replied c.count.ensures c.send.ensures
