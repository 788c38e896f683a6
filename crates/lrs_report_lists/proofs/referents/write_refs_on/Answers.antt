use Rattle.lrs_report_lists.specs.Lines.{ref_line}
use Rattle.lrs_report_lists.proofs.Writing.{appends_next}
use Rattle.lrs_report_lists.proofs.referents.write_refs_on.Goals as goal

pub loop-referent-preserved : goal.loop-referent-preserved
loop-referent-preserved g c =
    appends_next (ref_line c.args.exact c.args.route.now) c.loop-referent.referent-index c.args.refs.now c.referent-item.result _ _ _ c.loop-referent-test.true c.referent-item.is c.loop-referent.invariant c.in_ok-write_ref.ensures
