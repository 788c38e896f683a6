use Rattle.std.proofs.Common.{◌≡◌, rules}
use Rattle.lrs_store_image.proofs.DecodedRoutes.Referring.{made}
use Rattle.lrs_store_image.proofs.route_decoder.referents.route_of.Goals as goal

pub returns : goal.returns
returns c =
    let name : c.course.inside.route ≡ c.args.measured.course.route = search rules in
    let course : c.course.inside.course ≡ c.args.measured.course.entries = search rules in
    let marks : c.measured.inside.marks ≡ c.args.measured.marks = search rules in
    made c.args.measured _ c.args.refs.items name course marks c.from_vec.ensures
