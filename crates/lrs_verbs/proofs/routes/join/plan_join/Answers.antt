use Rattle.std.proofs.Common.{Err, sym, subst, ◌∙◌}
use Rattle.std.proofs.lemmas.Result.{err_from_is_err_and}
use Rattle.lrs_machine.specs.declared.answer.Cause.TheVariants as cause
use Rattle.lrs_machine.specs.declared.command.Command.TheVariants as verb
use Rattle.lrs_image_laws.proofs.Naming.{found_in}
use Rattle.lrs_inventory.specs.declared.plan.Plan.{Plan}
use Rattle.lrs_inventory.specs.declared.plan.Stop.{Stop}
use Rattle.lrs_verbs.specs.RouteVerbs.Joins.{joined_course, joined_line}
use Rattle.lrs_inventory.specs.Plans.{IsPlanOf, Plans}
use Rattle.lrs_inventory.proofs.Stopping.{refused, passed, stopped}
use Rattle.lrs_verbs.proofs.RouteVerbs.JoinRoutes.{course_is, line_is, room_for, can_go_on, refuses_first, refuses_second, refuses_same, refuses_course, refuses_marks, makes_one}
use Rattle.lrs_verbs.proofs.routes.join.plan_join.Goals as goal

pub returns-in_err-front : goal.returns-in_err-front
returns-in_err-front c =
    let i = c.args.inventory.now in
    let e = err_from_is_err_and c.from_residual.result c.from_residual.ensures.1 in
    let missing = c.in_err-front.ensures.missing in
    rw (e.1, e.2) (subst (λ (why : Stop). Plans (verb.Join c.args.first c.args.second) i (Err why)) (sym missing.0) (refuses_first c.args.first c.args.second i _ missing.1))

pub returns-in_err-rear : goal.returns-in_err-rear
returns-in_err-rear c =
    let i = c.args.inventory.now in
    let e = err_from_is_err_and c.from_residual-in_err-rear.result c.from_residual-in_err-rear.ensures.1 in
    let missing = c.in_err-rear.ensures.missing in
    rw (e.1, e.2) (subst (λ (why : Stop). Plans (verb.Join c.args.first c.args.second) i (Err why)) (sym missing.0)
    (refuses_second c.args.first c.args.second i c.in_ok-front.front.now c.in_ok-front.ensures.found _ missing.1))

pub returns-in_err-refuse_if : goal.returns-in_err-refuse_if
returns-in_err-refuse_if c =
    let i = c.args.inventory.now in
    let first = c.args.first in
    let second = c.args.second in
    let e = err_from_is_err_and c.from_residual-in_err-refuse_if.result c.from_residual-in_err-refuse_if.ensures.1 in
    rw (e.1, e.2) (refused (verb.Join first second) i c.eq-is_same.result cause.SameRoute c.refuse_if.result _ c.refuse_if.ensures c.in_err-refuse_if.was
    (λ same. refuses_same first second i c.in_ok-front.front.now c.in_ok-front.ensures.found c.in_ok-rear.rear.now c.in_ok-rear.ensures.found _ (sym c.eq-is_same.ensures ∙ same)))

pub returns-in_err-course : goal.returns-in_err-course
returns-in_err-course c =
    let i = c.args.inventory.now in
    let first = c.args.first in
    let second = c.args.second in
    let a = c.in_ok-front.front.now in
    let b = c.in_ok-rear.rear.now in
    let differ = sym c.eq-is_same.ensures ∙ passed c.eq-is_same.result cause.SameRoute c.refuse_if.result _ c.refuse_if.ensures c.in_ok-refuse_if.was in
    let e = err_from_is_err_and c.from_residual-in_err-course.result c.from_residual-in_err-course.ensures.1 in
    rw (e.1, e.2) (stopped (verb.Join first second) i (joined_course a.route.course b.route.course) _ c.in_err-course.ensures
    (λ d is. refuses_course first second i a c.in_ok-front.ensures.found b c.in_ok-rear.ensures.found differ _ d is))

pub returns-in_err-marks : goal.returns-in_err-marks
returns-in_err-marks c =
    let i = c.args.inventory.now in
    let first = c.args.first in
    let second = c.args.second in
    let a = c.in_ok-front.front.now in
    let b = c.in_ok-rear.rear.now in
    let differ = sym c.eq-is_same.ensures ∙ passed c.eq-is_same.result cause.SameRoute c.refuse_if.result _ c.refuse_if.ensures c.in_ok-refuse_if.was in
    let short = (course_is a.route.course b.route.course c.in_ok-course.course c.in_ok-course.ensures).1 in
    let e = err_from_is_err_and c.from_residual-in_err-marks.result c.from_residual-in_err-marks.ensures.1 in
    rw (e.1, e.2) (stopped (verb.Join first second) i (joined_line a.route.marks b.route.marks) _ c.in_err-marks.ensures
    (λ d is. refuses_marks first second i a c.in_ok-front.ensures.found b c.in_ok-rear.ensures.found differ short _ d is))

pub returns-in_err-passed : goal.returns-in_err-passed
returns-in_err-passed c =
    let e = err_from_is_err_and c.from_residual-in_err-passed.result c.from_residual-in_err-passed.ensures.1 in
    rw (e.1, e.2) tt

pub returns-in_err-keys : goal.returns-in_err-keys
returns-in_err-keys c =
    let e = err_from_is_err_and c.from_residual-in_err-keys.result c.from_residual-in_err-keys.ensures.1 in
    rw (e.1, e.2) tt

pub returns-in_err-change : goal.returns-in_err-change
returns-in_err-change c =
    let e = err_from_is_err_and c.from_residual-in_err-change.result c.from_residual-in_err-change.ensures.1 in
    rw (e.1, e.2) tt

pub lengthened-requires-clause-rows : goal.lengthened-requires-clause-rows
lengthened-requires-clause-rows c =
    let i = c.args.inventory.now in
    let a = c.in_ok-front.front.now in
    let b = c.in_ok-rear.rear.now in
    let short = (course_is a.route.course b.route.course c.in_ok-course.course c.in_ok-course.ensures).1 in
    can_go_on i a b c.prove_sound.ensures (found_in c.args.first a i.routes c.in_ok-front.ensures.found).0 (found_in c.args.second b i.routes c.in_ok-rear.ensures.found).0 (room_for a.route.course b.route.course short)

pub lengthened-requires-clause-room : goal.lengthened-requires-clause-room
lengthened-requires-clause-room c =
    let a = c.in_ok-front.front.now.route.course in
    let b = c.in_ok-rear.rear.now.route.course in
    room_for a b (course_is a b c.in_ok-course.course c.in_ok-course.ensures).1

pub lengthened-requires-clause-course : goal.lengthened-requires-clause-course
lengthened-requires-clause-course c = (course_is c.in_ok-front.front.now.route.course c.in_ok-rear.rear.now.route.course c.in_ok-course.course c.in_ok-course.ensures).0

pub lengthened-requires-clause-marks : goal.lengthened-requires-clause-marks
lengthened-requires-clause-marks c = (line_is c.in_ok-front.front.now.route.marks c.in_ok-rear.rear.now.route.marks c.in_ok-marks.marks c.in_ok-marks.ensures).marks

pub returns : goal.returns
returns c =
    let i = c.args.inventory.now in
    let first = c.args.first in
    let second = c.args.second in
    let a = c.in_ok-front.front.now in
    let b = c.in_ok-rear.rear.now in
    let differ = sym c.eq-is_same.ensures ∙ passed c.eq-is_same.result cause.SameRoute c.refuse_if.result _ c.refuse_if.ensures c.in_ok-refuse_if.was in
    let short = (course_is a.route.course b.route.course c.in_ok-course.course c.in_ok-course.ensures).1 in
    let line = line_is a.route.marks b.route.marks c.in_ok-marks.marks c.in_ok-marks.ensures in
    subst (λ (p : Plan). IsPlanOf (verb.Join first second) i p) (sym c.join_plan.ensures)
    (makes_one first second i a b c.in_ok-change.change c.prove_sound.ensures c.in_ok-front.ensures.found c.in_ok-rear.ensures.found differ short line.few line.small c.in_ok-change.ensures c.in_ok-keys.keys c.in_ok-keys.ensures c.in_ok-passed.passed
    c.in_ok-passed.ensures.course c.in_ok-passed.ensures.filled)
