use Rattle.std.proofs.Common.{◌≡◌, ◌∙◌, ap}
use Rattle.std.proofs.lemmas.Result.{IfOk-weaker}
use Rattle.std.specs.Option.{option_map}
use Rattle.lrs_store_tables.specs.Contents.Decoders.{each_of}
use Rattle.lrs_store_tables.specs.Contents.Content.{routes_named}
use Rattle.lrs_store_image.specs.DecodedRoutes.Courses.{good_route}
use Rattle.lrs_store_image.proofs.route_decoder.courses.courses_of_routes.Goals as goal

pub returns : goal.returns
returns c =
    let good = good_route c.args.links.now c.args.rows.now in
    IfOk-weaker c.courses_named.result (λ found. option_map (λ v. v.items) found ≡ each_of good c.deref.result.now)
    (λ found. option_map (λ v. v.items) found ≡ each_of good (routes_named c.args.rows.now))
    (λ found h. h ∙ ap (each_of good) (c.deref.ensures.value ∙ c.in_ok-names.ensures))
    c.courses_named.ensures
