use Rattle.std.proofs.Common.{◌≡◌, ◌≤◌, take}
use Rattle.lrs_image.specs.ChangeLists.{rows_in}
use Rattle.lrs_image.specs.KeeperCalls.{OnlyStages}
use Rattle.lrs_report_answers.specs.Tally.RunningCounts.{IsCounted}
use Rattle.lrs_desk.specs.Desk.{most_rows, records_of}
use Rattle.lrs_desk.specs.Group.{GoesOn}
use Rattle.lrs_desk.proofs.group.do_first.Given as goal

abbrev pub invariant-loop-key : goal.invariant-loop-key
invariant-loop-key g l = record {
  so_far : GoesOn l.fn.limits (records_of (take l.key-index l.commands)) l.fn.inventory l.inventory l.given.items (g.K.Keeper.staged l.keeper);
  counted : IsCounted l.inventory l.counts;
  rest : OnlyStages g.K.Holder l.fn.keeper l.keeper;
  listed : l.rows ≡ rows_in (g.K.Keeper.staged l.keeper);
  few : l.rows ≤ most_rows;
}
