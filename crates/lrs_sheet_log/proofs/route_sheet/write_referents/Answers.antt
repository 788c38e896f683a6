use Rattle.lrs_sheet_log.specs.RouteSheets.{command_line, set_on}
use Rattle.lrs_sheet_log.proofs.Written.{appends-next}
use Rattle.lrs_sheet_log.proofs.route_sheet.write_referents.Goals as goal

pub loop-referent-preserved : goal.loop-referent-preserved
loop-referent-preserved g c =
    appends-next (λ x. command_line (set_on c.args.route.now.name x)) c.loop-referent.referent-index c.args.refs.now c.referent-item.result _ _ _ c.loop-referent-test.true c.referent-item.is c.loop-referent.invariant c.in_ok-write_referent.ensures
