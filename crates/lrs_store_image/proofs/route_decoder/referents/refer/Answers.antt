use Rattle.std.proofs.Common.{◌∙◌, subst, IsPermutation}
use Rattle.lrs_store_tables.specs.Contents.Decoders.{said_of}
use Rattle.lrs_store_image.proofs.DecodedRoutes.Referring.{sorted_refs}
use Rattle.lrs_store_image.proofs.route_decoder.referents.refer.Goals as goal

pub returns : goal.returns
returns c =
    let rows = c.args.rows.now in
    let refs = c.in_ok-refs.refs.items in
    c.route_of.ensures
    ∙ sorted_refs c.args.measured (said_of c.args.measured.course.route rows) refs (subst (λ n. IsPermutation (said_of n rows) refs) c.route-name.ensures c.in_ok-refs.ensures.same) c.in_ok-refs.ensures.sorted
