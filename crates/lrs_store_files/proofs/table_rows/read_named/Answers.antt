use Rattle.lrs_store_files.proofs.SeeingLemmas.{none_seen, stop_told, looked_then, seen_so, seen_both, stopped_then}
use Rattle.lrs_store_files.proofs.table_rows.read_named.Goals as goal

pub returns-in_err-version-clause-seen : goal.returns-in_err-version-clause-seen
returns-in_err-version-clause-seen g c = none_seen _ _ c.from_residual.result c.from_residual.ensures.1

pub returns-in_err-version-clause-err : goal.returns-in_err-version-clause-err
returns-in_err-version-clause-err g c = stop_told c.from_residual.result c.from_residual.ensures.1 c.in_err-version.ensures.err

pub returns-in_err-version-clause-still : goal.returns-in_err-version-clause-still
returns-in_err-version-clause-still g c = c.read_tree.ensures.still

pub returns-in_err-link-clause-seen : goal.returns-in_err-link-clause-seen
returns-in_err-link-clause-seen g c = none_seen _ _ c.from_residual-in_err-link.result c.from_residual-in_err-link.ensures.1

pub returns-in_err-link-clause-err : goal.returns-in_err-link-clause-err
returns-in_err-link-clause-err g c = stop_told c.from_residual-in_err-link.result c.from_residual-in_err-link.ensures.1 (stopped_then c.in_ok-version.ensures.seen c.in_err-link.ensures.err)

pub returns-in_err-link-clause-still : goal.returns-in_err-link-clause-still
returns-in_err-link-clause-still g c = looked_then c.read_tree.ensures.still c.read_tree-2.ensures.still

pub returns-in_err-class-clause-seen : goal.returns-in_err-class-clause-seen
returns-in_err-class-clause-seen g c = none_seen _ _ c.from_residual-in_err-class.result c.from_residual-in_err-class.ensures.1

pub returns-in_err-class-clause-err : goal.returns-in_err-class-clause-err
returns-in_err-class-clause-err g c = stop_told c.from_residual-in_err-class.result c.from_residual-in_err-class.ensures.1 (stopped_then c.in_ok-version.ensures.seen (stopped_then c.in_ok-link.ensures.seen c.in_err-class.ensures.err))

pub returns-in_err-class-clause-still : goal.returns-in_err-class-clause-still
returns-in_err-class-clause-still g c = looked_then c.read_tree.ensures.still (looked_then c.read_tree-2.ensures.still c.read_tree-3.ensures.still)

pub returns-in_err-asset-clause-seen : goal.returns-in_err-asset-clause-seen
returns-in_err-asset-clause-seen g c = none_seen _ _ c.from_residual-in_err-asset.result c.from_residual-in_err-asset.ensures.1

pub returns-in_err-asset-clause-err : goal.returns-in_err-asset-clause-err
returns-in_err-asset-clause-err g c = stop_told c.from_residual-in_err-asset.result c.from_residual-in_err-asset.ensures.1 (stopped_then c.in_ok-version.ensures.seen (stopped_then c.in_ok-link.ensures.seen (stopped_then c.in_ok-class.ensures.seen c.in_err-asset.ensures.err)))

pub returns-in_err-asset-clause-still : goal.returns-in_err-asset-clause-still
returns-in_err-asset-clause-still g c = looked_then c.read_tree.ensures.still (looked_then c.read_tree-2.ensures.still (looked_then c.read_tree-3.ensures.still c.read_tree-4.ensures.still))

pub returns-clause-seen : goal.returns-clause-seen
returns-clause-seen g c = seen_so _ _ (λ db has. record { version = has.0; link = has.1.0; class = has.1.1.0; asset = has.1.1.1 }) (seen_both _ _ c.in_ok-version.ensures.seen (seen_both _ _ c.in_ok-link.ensures.seen (seen_both _ _ c.in_ok-class.ensures.seen c.in_ok-asset.ensures.seen)))

pub returns-clause-err : goal.returns-clause-err
returns-clause-err g c = tt

pub returns-clause-still : goal.returns-clause-still
returns-clause-still g c = looked_then c.read_tree.ensures.still (looked_then c.read_tree-2.ensures.still (looked_then c.read_tree-3.ensures.still c.read_tree-4.ensures.still))
