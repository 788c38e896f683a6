use Rattle.std.proofs.Common.{arith, ◌∙◌, ◌<◌, length, sym, rules}
use Rattle.std.proofs.lemmas.Grind.{common_steps}
use Rattle.lrs_store_image.proofs.DecodedRoutes.Fewest.{filled_all, some_ground, none_where_unfilled, none_where_other, some_where_fewest}
use Rattle.lrs_store_image.proofs.route_decoder.courses.course_in_fewest.Goals as goal

pub returns-then-not-are_filled : goal.returns-then-not-are_filled
returns-then-not-are_filled c = none_where_unfilled c.args.links.now c.args.pieces.now (sym c.are_filled.ensures ∙ c.if-not-are_filled.true)

pub course_over-requires-clause-filled : goal.course_over-requires-clause-filled
course_over-requires-clause-filled c = filled_all c.args.pieces.now (sym c.are_filled.ensures ∙ c.if-not-are_filled.false)

pub course_over-requires-clause-some : goal.course_over-requires-clause-some
course_over-requires-clause-some c =
    let some : 0 < length c.args.pieces.now = search rules in
    some_ground c.args.pieces.now some (filled_all c.args.pieces.now (sym c.are_filled.ensures ∙ c.if-not-are_filled.false))

pub returns-then-not-needs : goal.returns-then-not-needs
returns-then-not-needs c =
    none_where_other c.args.links.now c.args.pieces.now c.in-Some.course (sym c.in-Some.is ∙ c.in_ok-course.ensures) (sym c.needs.ensures ∙ c.if-not-needs.true)

pub returns : goal.returns
returns c =
    some_where_fewest c.args.links.now c.args.pieces.now c.in-Some.course (sym c.in-Some.is ∙ c.in_ok-course.ensures) (sym c.needs.ensures ∙ c.if-not-needs.false)

pub returns-then-is_empty : goal.returns-then-is_empty
returns-then-is_empty c = grind (arith, common_steps)

pub returns-in_default : goal.returns-in_default
returns-in_default c = grind (arith, common_steps)
