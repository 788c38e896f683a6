use Rattle.std.proofs.Common.{◌∙◌, sym, ap}
use Rattle.std.specs.Option.{option_map}
use Rattle.lrs_store_image.proofs.DecodedRoutes.Measuring.{same_courses}
use Rattle.lrs_store_image.proofs.route_decoder.marks.read_marks.Goals as goal

pub returns-in-Some-clause-courses : goal.returns-in-Some-clause-courses
returns-in-Some-clause-courses c =
    same_courses c.args.rows.now c.args.courses.items c.in-Some.measured.items (ap (option_map (λ v. v.items)) (sym c.in-Some.is) ∙ c.in_ok-found.ensures)
