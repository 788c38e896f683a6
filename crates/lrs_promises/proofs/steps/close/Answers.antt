use Rattle.std.proofs.Common.{subst}
use Rattle.lrs_promises.specs.DeskLaws.Steps.{acting}
use Rattle.lrs_promises.proofs.DeskLaws.Stepping.{stop_is_step}
use Rattle.lrs_promises.proofs.steps.close.Goals as goal

pub returns : goal.returns
returns g c =
    let may = g.K.Holder.may_hold in
    record {
      step = λ limits start xs h.
          stop_is_step may limits start xs (acting c.args.desk.must_reopen c.args.desk.image) (may c.args.desk.keeper) (may c.into_keeper.result)
          (λ b held. subst (λ k. may k b) c.into_keeper.ensures.keeper held) h.found;
    }
