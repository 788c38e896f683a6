use Rattle.std.proofs.Common.{refl}
use Rattle.serde_json.specs.View.{view}
use Rattle.lrs_web_replies.proofs.PageKeys.{by_equal, by_greater, by_less, by_none}
use Rattle.lrs_web_replies.proofs.pages.is_behind.Goals as goal

pub loop-field-init : goal.loop-field-init
loop-field-init c = refl

pub returns-in-Less : goal.returns-in-Less
returns-in-Less c =
    by_less (view c.args.entry.now) c.loop-field.field-index c.args.key.now c.field-item.result c.field_order.result c.loop-field-test.true c.field-item.is c.loop-field.invariant c.field_order.ensures c.in-Less.is

pub loop-field-preserved : goal.loop-field-preserved
loop-field-preserved c =
    by_equal (view c.args.entry.now) c.loop-field.field-index c.args.key.now c.field-item.result c.field_order.result c.loop-field-test.true c.field-item.is c.loop-field.invariant c.field_order.ensures c.in-Equal.is

pub returns-in-Greater : goal.returns-in-Greater
returns-in-Greater c =
    by_greater (view c.args.entry.now) c.loop-field.field-index c.args.key.now c.field-item.result c.field_order.result c.loop-field-test.true c.field-item.is c.loop-field.invariant c.field_order.ensures c.in-Greater.is

pub returns : goal.returns
returns c = by_none (view c.args.entry.now) c.loop-field.field-index c.args.key.now c.loop-field-test.false c.loop-field.invariant
