use Rattle.lrs_desk.specs.Desk.{records_of}
use Rattle.lrs_promises.proofs.DeskLaws.Stepping.{acts_are_steps}
use Rattle.lrs_promises.proofs.steps.act_on_first.Goals as goal

pub returns : goal.returns
returns g c = record {
  step = λ limits start xs h.
      acts_are_steps g.K.Holder.may_hold limits start xs c.args.desk.now c.act_on_first.new.self (records_of c.args.commands.now) c.act_on_first.result
      c.act_on_first.ensures.does c.act_on_first.ensures.content c.act_on_first.ensures.memory c.act_on_first.ensures.keep c.act_on_first.ensures.reopen c.act_on_first.ensures.stays c.act_on_first.ensures.limits c.act_on_first.ensures.«open» h;
}
