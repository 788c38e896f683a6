use Rattle.std.proofs.Common.{◌≡◌, ◌≤◌, ◌+◌, ◌-◌, length, take}
use Rattle.lrs_machine.specs.Image.{state_of}
use Rattle.lrs_sheet.specs.Replies.{answer_count}
use Rattle.lrs_sheet.specs.Sheets.{GoesAlong}
use Rattle.lrs_sheet.specs.WaitingCommands.{DoesAll}
use Rattle.lrs_sheet.proofs.queue.do_all.Given as goal

abbrev pub invariant-loop-done : goal.invariant-loop-done
invariant-loop-done g l = record {
  few : l.done ≤ length l.fn.commands;
  does : DoesAll l.initial.desk.limits (take l.done l.fn.commands) (state_of l.initial.desk.image) (state_of l.desk.image) (g.W.Write.contents l.initial.writer) (g.W.Write.contents l.writer) l.initial.tally l.tally;
  desk : GoesAlong g.K.Holder.may_hold l.initial.desk l.desk;
  count : answer_count l.tally ≡ answer_count l.initial.tally + l.done;
}

abbrev pub decreases-loop-done : goal.decreases-loop-done
decreases-loop-done g l = length l.fn.commands - l.done
