use Rattle.std.proofs.Common.{Option, if◌then◌else◌, ap, ◌∙◌}
use Rattle.lrs_measure.specs.Texts.{Name}
use Rattle.lrs_element.specs.Course.{course_of, runs_over}
use Rattle.lrs_position.specs.Index.Ground.{route_over}
use Rattle.lrs_position.proofs.Index.Handing.{and_other}
use Rattle.lrs_position.proofs.ground_index.GroundIndex.hand_over.Goals as goal

pub returns-clause-over : goal.returns-clause-over
returns-clause-over c = λ m. c.change_all.ensures.over m ∙ ap (λ (o : Option Name). if runs_over (course_of c.args.pieces.now) m then o else route_over c.args.self.now m) (and_other (route_over c.args.self.now m) c.args.route)
