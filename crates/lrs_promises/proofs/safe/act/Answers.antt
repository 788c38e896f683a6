use Rattle.lrs_machine.specs.Machine.{Record}
use Rattle.lrs_promises.proofs.Leaving.{is_answered}
use Rattle.lrs_promises.proofs.safe.act.Goals as goal

pub returns : goal.returns
returns g c =
    let r : Record = record { key = c.args.key; command = c.args.command.now } in
    let e = c.act.ensures in
    record {
      answered = is_answered g.K.Holder.may_hold g.K.Holder.is_clean r c.args.desk.now c.act.new.self c.act.result e.answer e.image e.content e.found e.open e.ahead;
      memory = e.memory;
      broken = e.keep;
      reopen = e.reopen;
      stays = e.stays;
      same = e.same;
      found = e.found;
      counts = e.counts;
      limits = e.limits;
    }
