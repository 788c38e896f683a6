use Rattle.lrs_store_files.proofs.SeeingLemmas.{none_seen, stop_told, looked_then, seen_so, seen_both, stopped_then}
use Rattle.lrs_store_files.proofs.table_rows.read_edits.Goals as goal

pub returns-in_err-edit-clause-seen : goal.returns-in_err-edit-clause-seen
returns-in_err-edit-clause-seen g c = none_seen _ _ c.from_residual.result c.from_residual.ensures.1

pub returns-in_err-edit-clause-err : goal.returns-in_err-edit-clause-err
returns-in_err-edit-clause-err g c = stop_told c.from_residual.result c.from_residual.ensures.1 c.in_err-edit.ensures.err

pub returns-in_err-edit-clause-still : goal.returns-in_err-edit-clause-still
returns-in_err-edit-clause-still g c = c.read_tree.ensures.still

pub returns-in_err-origin-clause-seen : goal.returns-in_err-origin-clause-seen
returns-in_err-origin-clause-seen g c = none_seen _ _ c.from_residual-in_err-origin.result c.from_residual-in_err-origin.ensures.1

pub returns-in_err-origin-clause-err : goal.returns-in_err-origin-clause-err
returns-in_err-origin-clause-err g c = stop_told c.from_residual-in_err-origin.result c.from_residual-in_err-origin.ensures.1 (stopped_then c.in_ok-edit.ensures.seen c.in_err-origin.ensures.err)

pub returns-in_err-origin-clause-still : goal.returns-in_err-origin-clause-still
returns-in_err-origin-clause-still g c = looked_then c.read_tree.ensures.still c.read_tree-2.ensures.still

pub returns-clause-seen : goal.returns-clause-seen
returns-clause-seen g c = seen_so _ _ (λ db has. record { edit = has.0; origin = has.1 }) (seen_both _ _ c.in_ok-edit.ensures.seen c.in_ok-origin.ensures.seen)

pub returns-clause-err : goal.returns-clause-err
returns-clause-err g c = tt

pub returns-clause-still : goal.returns-clause-still
returns-clause-still g c = looked_then c.read_tree.ensures.still c.read_tree-2.ensures.still
