use Rattle.std.proofs.Common.{ap}
use Rattle.std.proofs.lemmas.Result.{err_from_is_err_and}
use Rattle.lrs_inventory.specs.Prelude.{state_of}
use Rattle.lrs_measure.specs.Lists.{is_nothing}
use Rattle.lrs_machine.specs.declared.answer.Cause.TheVariants as cause
use Rattle.lrs_image_laws.specs.Realignments.{replaced}
use Rattle.lrs_verbs.specs.RouteVerbs.Realignments.{short_course, free_course}
use Rattle.lrs_verbs.proofs.RouteVerbs.RealignChecks.{stops_there, refused_there, then_marks, then_course}
use Rattle.lrs_verbs.proofs.routes.realign.new_line.Goals as goal

pub returns-in_err-refuse_if : goal.returns-in_err-refuse_if
returns-in_err-refuse_if c =
    let s = state_of c.args.inventory.now in
    let old = c.args.course.now in
    let pieces = c.args.pieces.now in
    let marks = c.args.marks.now in
    let come = c.in_ok-come.come in
    let course = c.in_ok-course.course in
    let e = err_from_is_err_and c.from_residual-in_err-refuse_if.result c.from_residual-in_err-refuse_if.ensures.1 in
    rw (e.1, e.2) (stops_there (free_course s pieces) come (then_course s old c.args.from c.args.to pieces marks) _ c.in_ok-come.ensures
    (stops_there (short_course (replaced c.args.from c.args.to come old)) course (then_marks s old c.args.from c.args.to pieces marks come) _ c.in_ok-course.ensures
    (refused_there c.is_empty.result (is_nothing course) cause.NothingLeft c.refuse_if.result _ _ c.refuse_if.ensures c.in_err-refuse_if.was (λ h. ap is_nothing (c.is_empty.ensures.0 h)))))
