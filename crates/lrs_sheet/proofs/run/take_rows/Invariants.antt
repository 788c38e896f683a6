use Rattle.std.proofs.Common.{◌<◌, length}
use Rattle.lrs_sheet.specs.WaitingCommands.{IsWaiting}
use Rattle.lrs_sheet.proofs.run.take_rows.Given as goal

abbrev pub invariant-loop-turn : goal.invariant-loop-turn
invariant-loop-turn g l = record {
  waiting : IsWaiting l.fn.run.sheet g.K.Holder.may_hold g.R.Read.remaining l.initial.rows l.rows l.initial.desk l.desk (g.W.Write.contents l.initial.writer) (g.W.Write.contents l.writer) l.queue.tally l.queue.waiting.items l._turn;
  few : length l.queue.waiting.items < l.fn.run.together;
}
