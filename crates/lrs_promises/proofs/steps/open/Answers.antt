use Rattle.lrs_promises.proofs.DeskLaws.Stepping.{opened_step, opened_fold, given_back}
use Rattle.lrs_promises.proofs.steps.open.Goals as goal

pub returns-clause-step : goal.returns-clause-step
returns-clause-step g c =
    opened_step g.K.Holder.may_hold c.args.limits (g.K.Holder.may_hold c.args.keeper) c.«open».result c.«open».ensures.image c.«open».ensures.content c.«open».ensures.limits c.«open».ensures.«open»

pub returns-clause-fold : goal.returns-clause-fold
returns-clause-fold g c =
    opened_fold g.K.Holder.may_hold c.args.limits (g.K.Holder.may_hold c.args.keeper) c.«open».result c.«open».ensures.«open»
    (opened_step g.K.Holder.may_hold c.args.limits (g.K.Holder.may_hold c.args.keeper) c.«open».result c.«open».ensures.image c.«open».ensures.content c.«open».ensures.limits c.«open».ensures.«open»)

pub returns-clause-failed : goal.returns-clause-failed
returns-clause-failed g c = given_back g.K.Holder.may_hold c.args.limits (g.K.Holder.may_hold c.args.keeper) c.«open».result c.«open».ensures.err
