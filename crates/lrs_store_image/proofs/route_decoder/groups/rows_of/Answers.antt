use Rattle.std.proofs.Common.{arith}
use Rattle.lrs_store_image.proofs.DecodedRoutes.Grouped.{of_route, of_none}
use Rattle.lrs_store_image.proofs.route_decoder.groups.rows_of.Goals as goal

pub returns-then-from-to : goal.returns-then-from-to
returns-then-from-to g c =
    let less = c.if-from-to.true in
    of_route c.args.rows.now c.requires c.args.route.now c.rows_before-from.result c.rows_up_to-to.result c.rows_up_to-to.ensures.within c.rows_before-from.ensures.point c.rows_up_to-to.ensures.point (omega (arith, less))

pub returns-else-from-to : goal.returns-else-from-to
returns-else-from-to g c =
    of_none c.args.rows.now c.requires c.args.route.now c.rows_before-from.result c.rows_up_to-to.result c.rows_up_to-to.ensures.within c.rows_before-from.ensures.point c.rows_up_to-to.ensures.point c.rows_before-from.ensures.within c.if-from-to.false
