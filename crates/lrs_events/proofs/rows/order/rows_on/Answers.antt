use Rattle.std.proofs.Common.{◌≤◌}
use Rattle.lrs_events.proofs.Row.Stretches.{stretched, in_order}
use Rattle.lrs_events.proofs.rows.order.rows_on.Goals as goal

order : (c : goal.After-rows_up_to) → c.rows_before.result ≤ c.rows_up_to.result
order c = in_order c.args.rows.now c.args.stretch.now c.rows_before.result c.rows_up_to.result c.requires.rows c.requires.filled c.rows_before.ensures.within c.rows_before.ensures.point c.rows_up_to.ensures.point

pub returns-clause-order : goal.returns-clause-order
returns-clause-order c = order c

pub returns-clause-stretch : goal.returns-clause-stretch
returns-clause-stretch c = stretched c.args.rows.now c.args.stretch.now c.rows_before.result c.rows_up_to.result c.requires.rows (order c) c.rows_before.ensures.point c.rows_up_to.ensures.point
