use Rattle.std.proofs.Common.{Some, None, ◌∙◌}
use Rattle.lrs_report.proofs.Faults.{class_exclusive}
use Rattle.lrs_report.proofs.lookups.is_exclusive_class.Goals as goal

pub returns-in-Some : goal.returns-in-Some
returns-in-Some g c = c.is_exclusive.ensures ∙ class_exclusive c.args.name.now (Some c.in-Some.class.now) (g.C.KnownRows.rows c.args.classes.now) c.requires c.in-Some.ensures

pub returns-in-None : goal.returns-in-None
returns-in-None g c = class_exclusive c.args.name.now None (g.C.KnownRows.rows c.args.classes.now) c.requires c.in-None.ensures
