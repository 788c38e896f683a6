use Rattle.lrs_store_image.proofs.DecodedRoutes.Referring.{own_names}
use Rattle.lrs_store_image.proofs.route_decoder.referents.have_own_names.Goals as goal

pub returns : goal.returns
returns c = own_names c.args.routes.now c.in_ok-names.names.items c.differ.result c.in_ok-names.ensures c.differ.ensures
