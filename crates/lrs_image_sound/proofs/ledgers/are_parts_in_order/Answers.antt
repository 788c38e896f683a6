use Rattle.std.proofs.Common.{sym, ◌∙◌}
use Rattle.lrs_image_sound.proofs.Balancing.{filled}
use Rattle.lrs_image_sound.proofs.Fitting.{parts_answer}
use Rattle.lrs_image_sound.proofs.ledgers.are_parts_in_order.Goals as goal

pub do_share_nothing_in_order-requires : goal.do_share_nothing_in_order-requires
do_share_nothing_in_order-requires c = record {
  filled = filled c.args.links.now c.args.assets.now c.args.sorted.now (sym c.are_inside.ensures ∙ c.if-not-are_inside.false);
  order = c.requires.order;
}

pub returns : goal.returns
returns c = parts_answer c.args.links.now c.args.assets.now c.args.sorted.now c.have_few_places.result
    (sym c.are_inside.ensures ∙ c.if-not-are_inside.false)
    (sym c.do_share_nothing_in_order.ensures ∙ c.if-not-do_share_nothing_in_order.false) c.have_few_places.ensures
