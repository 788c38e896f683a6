use Rattle.lrs_cli_sheets.proofs.Between.{ran_whole, some_together}
use Rattle.lrs_cli_sheets.proofs.sheets.run.Goals as goal

pub returns-then-run-eq0 : goal.returns-then-run-eq0
returns-then-run-eq0 g c =
    ran_whole g.K.Holder.may_hold c.args.way (g.S.Read.remaining c.args.sheet) c.args.desk.now c.run_one_by_one.new.desk _ _ c.run_one_by_one.result
    (rw c.run_of-run.ensures at c.if-run-eq1.true) (rw c.run_of-run.ensures at c.if-run-eq0.true) (rw c.run_of-run.ensures at c.run_one_by_one.ensures)

pub run_arriving-requires : goal.run_arriving-requires
run_arriving-requires g c = record { together = rw c.run_of-run.ensures (some_together c.args.way.pace) }

pub run_behind-requires : goal.run_behind-requires
run_behind-requires g c = record { together = rw c.run_of-run.ensures (some_together c.args.way.pace) }

pub returns-then-eq : goal.returns-then-eq
returns-then-eq g c = rw c.run_of-run.ensures at c.run_arriving.ensures

pub returns : goal.returns
returns g c = rw c.run_of-run.ensures at c.run_behind.ensures
