use Rattle.std.proofs.Common.{◌∙◌, List, Option, Some, sym, ap}
use Rattle.lrs_element.specs.declared.link.Ground.{Ground}
use Rattle.lrs_machine.specs.Sound.{RouteCourse}
use Rattle.lrs_store_tables.specs.Contents.Decoders as option
use Rattle.lrs_store_image.proofs.route_decoder.courses.course_with.Goals as goal

pub returns-in_default : goal.returns-in_default
returns-in_default c =
    let onwards : Option (List Ground) → Option RouteCourse = λ o. option.◌>>=◌ o (λ course. Some (record { route = c.args.route.now; entries = course })) in
    ap onwards (sym c.in_default.is ∙ c.in_ok-course.ensures)

pub returns : goal.returns
returns c =
    let onwards : Option (List Ground) → Option RouteCourse = λ o. option.◌>>=◌ o (λ course. Some (record { route = c.args.route.now; entries = course })) in
    ap onwards (sym c.in-Some.is ∙ c.in_ok-course.ensures)
