use Rattle.std.proofs.Common.{Some, None}
use Rattle.lrs_report.proofs.Faults.{class_known}
use Rattle.lrs_report.proofs.lookups.is_class.Goals as goal

pub returns-in-Some : goal.returns-in-Some
returns-in-Some g c = class_known c.args.name.now (Some c.in-Some.field-0.now) (g.C.KnownRows.rows c.args.classes.now) c.in-Some.ensures

pub returns-in-None : goal.returns-in-None
returns-in-None g c = class_known c.args.name.now None (g.C.KnownRows.rows c.args.classes.now) c.in-None.ensures
