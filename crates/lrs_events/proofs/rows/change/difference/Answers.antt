use Rattle.lrs_events.proofs.Row.Differing.{differ_at}
use Rattle.lrs_events.proofs.Row.Changing.{differ_makes}
use Rattle.lrs_events.proofs.rows.change.difference.Goals as goal

pub returns-clause-change : goal.returns-clause-change
returns-clause-change c = differ_at c.args.old.now c.args.new.now c.in_ok-missing.field-0.items c.in_ok-missing-2.field-0.items c.in_ok-missing.ensures c.in_ok-missing-2.ensures

pub returns-clause-new : goal.returns-clause-new
returns-clause-new c = differ_makes c.args.old.now c.args.new.now c.in_ok-missing.field-0.items c.in_ok-missing-2.field-0.items c.requires.old c.requires.new c.in_ok-missing.ensures c.in_ok-missing-2.ensures
