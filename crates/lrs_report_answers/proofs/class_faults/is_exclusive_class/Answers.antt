use Rattle.std.proofs.Common.{Some, None, ◌∙◌}
use Rattle.lrs_report.proofs.Faults.{class_exclusive}
use Rattle.lrs_report_answers.proofs.class_faults.is_exclusive_class.Goals as goal

pub returns-in-Some : goal.returns-in-Some
returns-in-Some c = c.is_exclusive.ensures ∙ class_exclusive c.args.name.now (Some c.in-Some.class.now) c.args.classes.now.rows c.requires c.in-Some.ensures

pub returns-in-None : goal.returns-in-None
returns-in-None c = class_exclusive c.args.name.now None c.args.classes.now.rows c.requires c.in-None.ensures
