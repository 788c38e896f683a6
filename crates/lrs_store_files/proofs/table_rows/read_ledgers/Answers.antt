use Rattle.lrs_store_files.proofs.SeeingLemmas.{none_seen, stop_told, looked_then, seen_so, seen_both, stopped_then}
use Rattle.lrs_store_files.proofs.table_rows.read_ledgers.Goals as goal

pub returns-in_err-entered-clause-seen : goal.returns-in_err-entered-clause-seen
returns-in_err-entered-clause-seen g c = none_seen _ _ c.from_residual.result c.from_residual.ensures.1

pub returns-in_err-entered-clause-err : goal.returns-in_err-entered-clause-err
returns-in_err-entered-clause-err g c = stop_told c.from_residual.result c.from_residual.ensures.1 c.in_err-entered.ensures.err

pub returns-in_err-entered-clause-still : goal.returns-in_err-entered-clause-still
returns-in_err-entered-clause-still g c = c.read_tree.ensures.still

pub returns-in_err-gone-clause-seen : goal.returns-in_err-gone-clause-seen
returns-in_err-gone-clause-seen g c = none_seen _ _ c.from_residual-in_err-gone.result c.from_residual-in_err-gone.ensures.1

pub returns-in_err-gone-clause-err : goal.returns-in_err-gone-clause-err
returns-in_err-gone-clause-err g c = stop_told c.from_residual-in_err-gone.result c.from_residual-in_err-gone.ensures.1 (stopped_then c.in_ok-entered.ensures.seen c.in_err-gone.ensures.err)

pub returns-in_err-gone-clause-still : goal.returns-in_err-gone-clause-still
returns-in_err-gone-clause-still g c = looked_then c.read_tree.ensures.still c.read_tree-2.ensures.still

pub returns-clause-seen : goal.returns-clause-seen
returns-clause-seen g c = seen_so _ _ (λ db has. record { entered = has.0; gone = has.1 }) (seen_both _ _ c.in_ok-entered.ensures.seen c.in_ok-gone.ensures.seen)

pub returns-clause-err : goal.returns-clause-err
returns-clause-err g c = tt

pub returns-clause-still : goal.returns-clause-still
returns-clause-still g c = looked_then c.read_tree.ensures.still c.read_tree-2.ensures.still
