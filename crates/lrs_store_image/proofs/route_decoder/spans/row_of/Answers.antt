use Rattle.std.proofs.Common.{ap, ◌∙◌}
use Rattle.lrs_measure.specs.Lists.{each_two}
use Rattle.lrs_store_image.specs.DecodedRoutes.Spans.{agree}
use Rattle.lrs_store_image.proofs.DecodedRoutes.Entering.{said_of_agree}
use Rattle.lrs_store_image.proofs.route_decoder.spans.row_of.Goals as goal

pub canonical-requires : goal.canonical-requires
canonical-requires c = ap (each_two agree) c.in_ok-rows.ensures ∙ said_of_agree c.args.route.name c.args.said.now c.requires.agree
