use Rattle.std.proofs.Common.{◌≡◌, ◌+◌, take}
use Rattle.std.specs.Io.KnownBytes.{Appends}
use Rattle.lrs_sheet.specs.Replies.{answer_count, lines_of}
use Rattle.lrs_sheet.specs.WaitingCommands.{replies_of, counted_all}
use Rattle.lrs_sheet.proofs.queue.write_answers.Given as goal

abbrev pub invariant-loop-place : goal.invariant-loop-place
invariant-loop-place g l = record {
  written : Appends (g.W.Write.contents l.initial.writer) (g.W.Write.contents l.writer) (lines_of (replies_of (take l.place l.fn.commands) (take l.place l.fn.answers)));
  counted : l.tally ≡ counted_all l.initial.tally (replies_of (take l.place l.fn.commands) (take l.place l.fn.answers));
  count : answer_count l.tally ≡ answer_count l.initial.tally + l.place;
}
