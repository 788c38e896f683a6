use Rattle.std.proofs.Common.{refl, ap, take_all, ◌∙◌}
use Rattle.std.specs.List.{flat_map}
use Rattle.lrs_web_replies.specs.Listings.{row_items}
use Rattle.lrs_web_replies.specs.PagedText.{add_all}
use Rattle.lrs_web_replies.proofs.Paging.{added_next}
use Rattle.lrs_web_replies.proofs.row_lists.add_rows_on.Goals as goal

pub loop-row-init : goal.loop-row-init
loop-row-init c = refl

pub loop-row-preserved : goal.loop-row-preserved
loop-row-preserved c =
    added_next (row_items c.args.form c.args.assets.now.rows c.args.route.now) c.loop-row.row-index c.args.rows.now c.row-item.result c.args.text.now c.loop-row.text c.add_row.new.text c.loop-row-test.true c.row-item.is c.loop-row.invariant c.in_ok-add_row.ensures

pub returns : goal.returns
returns c = c.loop-row.invariant ∙ ap (λ some. add_all c.args.text.now (flat_map (row_items c.args.form c.args.assets.now.rows c.args.route.now) some)) (take_all c.loop-row.row-index c.args.rows.now c.loop-row-test.false)
