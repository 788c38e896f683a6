use Rattle.std.proofs.Common.{rules, arith}
use Rattle.std.proofs.lemmas.Result.{err_from_is_err_and}
use Rattle.csv.specs.Records.{fields_of}
use Rattle.lrs_sheet.proofs.Taking.{start, stopped, taken}
use Rattle.lrs_sheet.proofs.run.take_rows.Goals as goal

pub loop-turn-init : goal.loop-turn-init
loop-turn-init g c = record {
  waiting = start c.args.run.sheet g.R.Read.remaining c.args.rows.now c.args.desk.now (g.W.Write.contents c.args.writer.now) c.args.queue.now.tally c.args.queue.now.waiting.items c.requires.plain c.requires.width c.requires.fresh c.requires.none;
  few = rw c.requires.none (omega (arith, c.requires.together));
}

pub returns-in-Ok-false-clause-taken : goal.returns-in-Ok-false-clause-taken
returns-in-Ok-false-clause-taken g c = (c.loop-turn.rows, c.loop-turn._turn, omega arith, c.loop-turn.invariant.waiting, c.in-Ok-false.ensures.ended (search rules))

pub returns-in-Ok-false-next_row-clause-taken : goal.returns-in-Ok-false-next_row-clause-taken
returns-in-Ok-false-next_row-clause-taken g c = (c.loop-turn.rows, c.loop-turn._turn, omega arith, c.loop-turn.invariant.waiting, c.in-Ok-false-next_row.ensures.ended (search rules))

pub returns-in_err-take_row-clause-stops : goal.returns-in_err-take_row-clause-stops
returns-in_err-take_row-clause-stops g c =
    let found = c.in-Ok-true.field-0-test in
    let wide = rw c.loop-turn.invariant.waiting.width at (c.in-Ok-true.ensures.same_width found) in
    let p = err_from_is_err_and c.from_residual.result c.from_residual.ensures.1 in
    rw (p.1, p.2) (stopped c.args.run g.R.Read.remaining c.args.rows.now c.loop-turn.rows c.next_row.new.rows c.args.desk.now c.loop-turn.desk (g.W.Write.contents c.args.writer.now) (g.W.Write.contents c.loop-turn.writer) c.loop-turn.queue.tally c.loop-turn.queue.waiting.items c.loop-turn._turn
    c.loop-turn.invariant.waiting (fields_of c.next_row.new.row) (c.in-Ok-true.ensures.plain found) (c.in-Ok-true.ensures.width found) wide (c.in-Ok-true.ensures.found found) c.take_row.new.desk (g.W.Write.contents c.take_row.new.writer)
    _ c.loop-turn.invariant.few c.in_err-take_row.ensures.stops c.in_err-take_row.ensures.desk)

pub loop-turn-preserved : goal.loop-turn-preserved
loop-turn-preserved g c =
    let found = c.in-Ok-true.field-0-test in
    let wide = rw c.loop-turn.invariant.waiting.width at (c.in-Ok-true.ensures.same_width found) in
    record {
      waiting = taken c.args.run g.R.Read.remaining c.args.rows.now c.loop-turn.rows c.next_row.new.rows c.args.desk.now c.loop-turn.desk (g.W.Write.contents c.args.writer.now) (g.W.Write.contents c.loop-turn.writer) c.loop-turn.queue.tally c.loop-turn.queue.waiting.items c.loop-turn._turn
          c.loop-turn.invariant.waiting (fields_of c.next_row.new.row) (c.in-Ok-true.ensures.plain found) (c.in-Ok-true.ensures.width found) wide (c.in-Ok-true.ensures.found found) c.take_row.new.desk (g.W.Write.contents c.take_row.new.writer)
          c.take_row.new.queue.waiting.items c.take_row.new.queue.tally c.in_ok-take_row.ensures.takes c.in_ok-take_row.ensures.desk;
      few = c.in_ok-take_row.ensures.few;
    }
