use Rattle.std.proofs.Common.{ap, subst, ◌++◌, ◌∙◌, arith}
use Rattle.std.proofs.lemmas.List.{take_all}
use Rattle.lrs_image_sound.specs.HeldParts.{AreOfRoutes}
use Rattle.lrs_image_sound.specs.Tables.{route_spans}
use Rattle.lrs_image_sound.proofs.Rowed.{made_none, made_more}
use Rattle.lrs_image_sound.proofs.holdings.held_parts.Goals as goal

pub loop-route_row-init : goal.loop-route_row-init
loop-route_row-init c = made_none c.new-held.result.items c.new-held.ensures.items

pub loop-route_row-preserved : goal.loop-route_row-preserved
loop-route_row-preserved c =
    made_more c.args.routes.now c.loop-route_row.route_row-index c.route_row-item.result c.loop-route_row.held.items c.in_ok-parts.parts.items _ c.loop-route_row-test.true c.route_row-item.is c.loop-route_row.invariant c.in_ok-parts.ensures.filled c.in_ok-parts.ensures.held
    (c.in_ok-extend_from_slice.ensures.items ∙ ap (λ l. c.loop-route_row.held.items ++ l) c.deref.ensures.value)

pub returns : goal.returns
returns c = record {
  filled = c.loop-route_row.invariant.filled;
  held = subst (λ rs. AreOfRoutes (route_spans rs) c.loop-route_row.held.items) (take_all c.loop-route_row.route_row-index c.args.routes.now (omega arith)) c.loop-route_row.invariant.held;
}
