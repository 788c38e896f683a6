use Rattle.std.proofs.Common.{Some, None}
use Rattle.lrs_report.proofs.Faults.{class_known}
use Rattle.lrs_report_answers.proofs.class_faults.is_class.Goals as goal

pub returns-in-Some : goal.returns-in-Some
returns-in-Some c = class_known c.args.name.now (Some c.in-Some.field-0.now) c.args.classes.now.rows c.in-Some.ensures

pub returns-in-None : goal.returns-in-None
returns-in-None c = class_known c.args.name.now None c.args.classes.now.rows c.in-None.ensures
