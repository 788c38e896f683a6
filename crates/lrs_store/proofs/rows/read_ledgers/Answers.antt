use Rattle.lrs_store_files.proofs.SeeingLemmas.{none_seen, stop_told, seen_both, stopped_then}
use Rattle.lrs_store.proofs.rows.read_ledgers.Goals as goal

pub returns-in_err-entered-clause-seen : goal.returns-in_err-entered-clause-seen
returns-in_err-entered-clause-seen g c = none_seen _ _ c.from_residual.result c.from_residual.ensures.1

pub returns-in_err-entered-clause-err : goal.returns-in_err-entered-clause-err
returns-in_err-entered-clause-err g c = stop_told c.from_residual.result c.from_residual.ensures.1 c.in_err-entered.ensures.err

pub returns-in_err-edit-clause-seen : goal.returns-in_err-edit-clause-seen
returns-in_err-edit-clause-seen g c = none_seen _ _ c.from_residual-in_err-edit.result c.from_residual-in_err-edit.ensures.1

pub returns-in_err-edit-clause-err : goal.returns-in_err-edit-clause-err
returns-in_err-edit-clause-err g c = stop_told c.from_residual-in_err-edit.result c.from_residual-in_err-edit.ensures.1 (stopped_then c.in_ok-entered.ensures.seen c.in_err-edit.ensures.err)

pub returns-clause-seen : goal.returns-clause-seen
returns-clause-seen g c = seen_both _ _ c.in_ok-entered.ensures.seen c.in_ok-edit.ensures.seen

pub returns-clause-err : goal.returns-clause-err
returns-clause-err g c = tt
