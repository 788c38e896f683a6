use Rattle.lrs_store_files.proofs.SeeingLemmas.{none_seen, stop_told, looked_then, seen_so, seen_both, stopped_then}
use Rattle.lrs_store_files.proofs.table_rows.read_routes.Goals as goal

pub returns-in_err-piece-clause-seen : goal.returns-in_err-piece-clause-seen
returns-in_err-piece-clause-seen g c = none_seen _ _ c.from_residual.result c.from_residual.ensures.1

pub returns-in_err-piece-clause-err : goal.returns-in_err-piece-clause-err
returns-in_err-piece-clause-err g c = stop_told c.from_residual.result c.from_residual.ensures.1 c.in_err-piece.ensures.err

pub returns-in_err-piece-clause-still : goal.returns-in_err-piece-clause-still
returns-in_err-piece-clause-still g c = c.read_tree.ensures.still

pub returns-in_err-mark-clause-seen : goal.returns-in_err-mark-clause-seen
returns-in_err-mark-clause-seen g c = none_seen _ _ c.from_residual-in_err-mark.result c.from_residual-in_err-mark.ensures.1

pub returns-in_err-mark-clause-err : goal.returns-in_err-mark-clause-err
returns-in_err-mark-clause-err g c = stop_told c.from_residual-in_err-mark.result c.from_residual-in_err-mark.ensures.1 (stopped_then c.in_ok-piece.ensures.seen c.in_err-mark.ensures.err)

pub returns-in_err-mark-clause-still : goal.returns-in_err-mark-clause-still
returns-in_err-mark-clause-still g c = looked_then c.read_tree.ensures.still c.read_tree-2.ensures.still

pub returns-in_err-referent-clause-seen : goal.returns-in_err-referent-clause-seen
returns-in_err-referent-clause-seen g c = none_seen _ _ c.from_residual-in_err-referent.result c.from_residual-in_err-referent.ensures.1

pub returns-in_err-referent-clause-err : goal.returns-in_err-referent-clause-err
returns-in_err-referent-clause-err g c = stop_told c.from_residual-in_err-referent.result c.from_residual-in_err-referent.ensures.1 (stopped_then c.in_ok-piece.ensures.seen (stopped_then c.in_ok-mark.ensures.seen c.in_err-referent.ensures.err))

pub returns-in_err-referent-clause-still : goal.returns-in_err-referent-clause-still
returns-in_err-referent-clause-still g c = looked_then c.read_tree.ensures.still (looked_then c.read_tree-2.ensures.still c.read_tree-3.ensures.still)

pub returns-in_err-span-clause-seen : goal.returns-in_err-span-clause-seen
returns-in_err-span-clause-seen g c = none_seen _ _ c.from_residual-in_err-span.result c.from_residual-in_err-span.ensures.1

pub returns-in_err-span-clause-err : goal.returns-in_err-span-clause-err
returns-in_err-span-clause-err g c = stop_told c.from_residual-in_err-span.result c.from_residual-in_err-span.ensures.1 (stopped_then c.in_ok-piece.ensures.seen (stopped_then c.in_ok-mark.ensures.seen (stopped_then c.in_ok-referent.ensures.seen c.in_err-span.ensures.err)))

pub returns-in_err-span-clause-still : goal.returns-in_err-span-clause-still
returns-in_err-span-clause-still g c = looked_then c.read_tree.ensures.still (looked_then c.read_tree-2.ensures.still (looked_then c.read_tree-3.ensures.still c.read_tree-4.ensures.still))

pub returns-clause-seen : goal.returns-clause-seen
returns-clause-seen g c = seen_so _ _ (λ db has. record { piece = has.0; mark = has.1.0; referent = has.1.1.0; span = has.1.1.1 }) (seen_both _ _ c.in_ok-piece.ensures.seen (seen_both _ _ c.in_ok-mark.ensures.seen (seen_both _ _ c.in_ok-referent.ensures.seen c.in_ok-span.ensures.seen)))

pub returns-clause-err : goal.returns-clause-err
returns-clause-err g c = tt

pub returns-clause-still : goal.returns-clause-still
returns-clause-still g c = looked_then c.read_tree.ensures.still (looked_then c.read_tree-2.ensures.still (looked_then c.read_tree-3.ensures.still c.read_tree-4.ensures.still))
