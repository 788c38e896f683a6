use Rattle.std.proofs.Common.{arith, ◌≡◌, ◌<◌, ◌+◌, ◌∙◌, length, take, Some, sym, ap, subst, rules}
use Rattle.std.proofs.lemmas.Grind.{common_steps}
use Rattle.lrs_store_tables.specs.Contents.Decoders.{each_of}
use Rattle.lrs_store_image.specs.DecodedRoutes.Courses.{good_route}
use Rattle.lrs_store_image.proofs.DecodedRoutes.Each.{each_of-more, each_of-at}
use Rattle.lrs_store_image.proofs.route_decoder.courses.courses_named.Goals as goal

pub returns-in_default : goal.returns-in_default
returns-in_default c =
    let names = c.args.names.now in
    let i = c.loop-name.name-index in
    let bound : i < length names = search rules in
    let good = good_route c.args.links.now c.args.rows.now in
    sym (each_of-at good names i c.name-item.result bound (ap good (sym c.name-item.is) ∙ sym c.in_ok-course.ensures ∙ c.in_default.is))

pub loop-name-preserved : goal.loop-name-preserved
loop-name-preserved c =
    let names = c.args.names.now in
    let i = c.loop-name.name-index in
    let bound : i < length names = search rules in
    let good = good_route c.args.links.now c.args.rows.now in
    let more = each_of-more good names i c.name-item.result c.in-Some.course c.loop-name.courses.items bound c.loop-name.invariant (ap good (sym c.name-item.is) ∙ sym c.in_ok-course.ensures ∙ c.in-Some.is) in
    subst (λ zs. each_of good (take (i + 1) names) ≡ Some zs) (sym c.in_ok-push.ensures.items) more

pub returns : goal.returns
returns c = grind (arith, common_steps)
