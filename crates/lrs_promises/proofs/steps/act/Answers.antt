use Rattle.lrs_machine.specs.Machine.{Record}
use Rattle.lrs_promises.proofs.DeskLaws.Stepping.{act_is_step}
use Rattle.lrs_promises.proofs.steps.act.Goals as goal

pub returns : goal.returns
returns g c =
    let r : Record = record { key = c.args.key; command = c.args.command.now } in
    record {
      step = λ limits start xs h.
          act_is_step g.K.Holder.may_hold limits start xs c.args.desk.now c.act.new.self r c.act.result
          c.act.ensures.answer c.act.ensures.image c.act.ensures.content c.act.ensures.memory c.act.ensures.keep c.act.ensures.reopen c.act.ensures.stays c.act.ensures.limits c.act.ensures.«open» h;
    }
