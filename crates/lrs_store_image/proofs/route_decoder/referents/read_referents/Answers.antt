use Rattle.std.proofs.Common.{◌∙◌, sym, ap}
use Rattle.std.specs.Option.{option_map}
use Rattle.lrs_store_image.proofs.DecodedRoutes.Referring.{same_courses}
use Rattle.lrs_store_image.proofs.route_decoder.referents.read_referents.Goals as goal

pub returns-in-Some-clause-courses : goal.returns-in-Some-clause-courses
returns-in-Some-clause-courses c =
    same_courses c.args.rows.now c.args.measured.items c.in-Some.routes.items (ap (option_map (λ v. v.items)) (sym c.in-Some.is) ∙ c.in_ok-found.ensures)
