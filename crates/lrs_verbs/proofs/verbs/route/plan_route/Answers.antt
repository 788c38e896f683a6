use Rattle.std.proofs.Common.{◌≡◌, ℕ, Ok, length, sym, ap, subst, ◌∙◌}
use Rattle.std.proofs.lemmas.Result.{err_from_is_err_and}
use Rattle.lrs_machine.specs.declared.answer.Cause.TheVariants as cause
use Rattle.lrs_machine.specs.declared.command.Command.TheVariants as verb
use Rattle.lrs_inventory.specs.Prelude.{state_of}
use Rattle.lrs_machine.specs.Machine.{check_free}
use Rattle.lrs_machine.specs.Register.{get}
use Rattle.lrs_inventory.specs.declared.plan.Plan.{Plan}
use Rattle.lrs_inventory.specs.NewCourses.{new_course, new_marks}
use Rattle.lrs_inventory.specs.Plans.{IsPlanOf, Answers}
use Rattle.lrs_inventory.proofs.Known.{same_known}
use Rattle.lrs_inventory.proofs.Stopping.{refused, passed, stopped}
use Rattle.lrs_inventory.proofs.NewCourse.{good_line}
use Rattle.lrs_verbs.proofs.NewRoute.{refuses_known, refuses_pieces, refuses_ground, refuses_marks, makes}
use Rattle.lrs_verbs.proofs.verbs.route.plan_route.Goals as goal

pub returns-in_err-refuse_if : goal.returns-in_err-refuse_if
returns-in_err-refuse_if c =
    let i = c.args.inventory.now in
    let name = c.args.name in
    let pieces = c.args.pieces.now in
    let marks = c.args.marks.now in
    let e = err_from_is_err_and c.from_residual.result c.from_residual.ensures.1 in
    rw (e.1, e.2) (refused (verb.Route name pieces marks) i c.is_some-is_known.result cause.RouteKnown c.refuse_if.result _ c.refuse_if.ensures c.in_err-refuse_if.was
    (λ known. refuses_known name pieces marks i _ (same_known _ _ c.route.result (get (state_of i).routes name) c.route.ensures.route ∙ sym c.is_some-is_known.ensures ∙ known)))

pub returns-in_err-course : goal.returns-in_err-course
returns-in_err-course c =
    let i = c.args.inventory.now in
    let name = c.args.name in
    let pieces = c.args.pieces.now in
    let marks = c.args.marks.now in
    let unknown = passed c.is_some-is_known.result cause.RouteKnown c.refuse_if.result _ c.refuse_if.ensures c.in_ok-refuse_if.was in
    let fresh = same_known _ _ c.route.result (get (state_of i).routes name) c.route.ensures.route ∙ sym c.is_some-is_known.ensures ∙ unknown in
    let e = err_from_is_err_and c.from_residual-in_err-course.result c.from_residual-in_err-course.ensures.1 in
    rw (e.1, e.2) (stopped (verb.Route name pieces marks) i (new_course (state_of i) pieces) _ (subst (Answers (new_course (state_of i) pieces)) c.in_err-course.was c.course.ensures) (λ d is. refuses_pieces name pieces marks i _ fresh d is))

pub returns-in_err-check_free : goal.returns-in_err-check_free
returns-in_err-check_free c =
    let i = c.args.inventory.now in
    let name = c.args.name in
    let pieces = c.args.pieces.now in
    let marks = c.args.marks.now in
    let unknown = passed c.is_some-is_known.result cause.RouteKnown c.refuse_if.result _ c.refuse_if.ensures c.in_ok-refuse_if.was in
    let fresh = same_known _ _ c.route.result (get (state_of i).routes name) c.route.ensures.route ∙ sym c.is_some-is_known.ensures ∙ unknown in
    let made = subst (Answers (new_course (state_of i) pieces)) c.in_ok-course.was c.course.ensures in
    let e = err_from_is_err_and c.from_residual-in_err-check_free.result c.from_residual-in_err-check_free.ensures.1 in
    rw (e.1, e.2) (stopped (verb.Route name pieces marks) i (check_free (state_of i) pieces) _ (subst (Answers (check_free (state_of i) pieces)) c.in_err-check_free.was c.check_free.ensures)
    (λ d is. refuses_ground name pieces marks i _ fresh c.in_ok-course.course made d is))

pub returns-in_err-marks : goal.returns-in_err-marks
returns-in_err-marks c =
    let i = c.args.inventory.now in
    let name = c.args.name in
    let pieces = c.args.pieces.now in
    let marks = c.args.marks.now in
    let course = c.in_ok-course.course in
    let unknown = passed c.is_some-is_known.result cause.RouteKnown c.refuse_if.result _ c.refuse_if.ensures c.in_ok-refuse_if.was in
    let fresh = same_known _ _ c.route.result (get (state_of i).routes name) c.route.ensures.route ∙ sym c.is_some-is_known.ensures ∙ unknown in
    let made = subst (Answers (new_course (state_of i) pieces)) c.in_ok-course.was c.course.ensures in
    let free = subst (Answers (check_free (state_of i) pieces)) c.in_ok-check_free.was c.check_free.ensures in
    let e = err_from_is_err_and c.from_residual-in_err-marks.result c.from_residual-in_err-marks.ensures.1 in
    rw (e.1, e.2) (stopped (verb.Route name pieces marks) i (new_marks c.len.result marks) _ (subst (Answers (new_marks c.len.result marks)) c.in_err-marks.was c.new_marks.ensures)
    (λ d is. refuses_marks name pieces marks i _ fresh course made free d (ap (λ (n : ℕ). new_marks n marks) (sym c.len.ensures.len) ∙ is)))

pub new_entry-route_row-requires : goal.new_entry-route_row-requires
new_entry-route_row-requires c =
    let marks = c.args.marks.now in
    record { fit = good_line (length c.in_ok-course.course) marks c.in_ok-marks.marks (subst (λ (n : ℕ). new_marks n marks ≡ Ok c.in_ok-marks.marks) c.len.ensures.len (subst (Answers (new_marks c.len.result marks)) c.in_ok-marks.was c.new_marks.ensures)) }

pub returns : goal.returns
returns c =
    let i = c.args.inventory.now in
    let name = c.args.name in
    let pieces = c.args.pieces.now in
    let marks = c.args.marks.now in
    let course = c.in_ok-course.course in
    let unknown = passed c.is_some-is_known.result cause.RouteKnown c.refuse_if.result _ c.refuse_if.ensures c.in_ok-refuse_if.was in
    let fresh = same_known _ _ c.route.result (get (state_of i).routes name) c.route.ensures.route ∙ sym c.is_some-is_known.ensures ∙ unknown in
    let made = subst (Answers (new_course (state_of i) pieces)) c.in_ok-course.was c.course.ensures in
    let free = subst (Answers (check_free (state_of i) pieces)) c.in_ok-check_free.was c.check_free.ensures in
    let line = subst (λ (n : ℕ). new_marks n marks ≡ Ok c.in_ok-marks.marks) c.len.ensures.len (subst (Answers (new_marks c.len.result marks)) c.in_ok-marks.was c.new_marks.ensures) in
    let route_row = c.new_entry-route_row.result in
    subst (λ (p : Plan). IsPlanOf (verb.Route name pieces marks) i p) (sym c.route_plan.ensures)
    (makes name pieces marks c.in_ok-marks.marks course i route_row fresh made free line c.new_entry-route_row.ensures c.prove_sound.ensures c.in_ok-come.come
    (c.in_ok-come.ensures.course ∙ sym c.new_entry-route_row.ensures.course) c.in_ok-come.ensures.filled)
