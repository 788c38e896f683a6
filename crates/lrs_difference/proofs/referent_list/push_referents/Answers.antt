use Rattle.std.proofs.Common.{map}
use Rattle.lrs_report_lists.proofs.Length.Pushed.{pushed_next}
use Rattle.lrs_difference.specs.Placed.{entry_of, entry_on}
use Rattle.lrs_difference.proofs.referent_list.push_referents.Goals as goal

pub loop-referent-preserved : goal.loop-referent-preserved
loop-referent-preserved c =
    pushed_next (entry_on c.args.course.now) c.loop-referent.referent-index c.args.referents.now c.referent-item.result (map entry_of c.args.entries.now.items) (map entry_of c.loop-referent.entries.items) (map entry_of c.push_referent.new.entries.items)
    c.loop-referent-test.true c.referent-item.is c.loop-referent.invariant c.in_ok-push_referent.ensures
