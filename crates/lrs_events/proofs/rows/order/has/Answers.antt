use Rattle.std.proofs.Common.{◌∙◌, sym}
use Rattle.lrs_events.proofs.Row.Differing.{has_there, has_none}
use Rattle.lrs_events.proofs.rows.order.has.Goals as goal

pub returns-then-at-rows : goal.returns-then-at-rows
returns-then-at-rows c = c.is_same.ensures ∙ has_there c.args.rows.now c.args.row.now c.rows_begun-at.result c.requires c.rows_begun-at.ensures.point c.index-rows-at.result c.if-at-rows.true c.index-rows-at.is

pub returns-else-at-rows : goal.returns-else-at-rows
returns-else-at-rows c = sym (has_none c.args.rows.now c.args.row.now c.rows_begun-at.result c.requires c.rows_begun-at.ensures.point c.if-at-rows.false)
