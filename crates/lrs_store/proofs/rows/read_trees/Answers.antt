use Rattle.lrs_store_files.proofs.SeeingLemmas.{none_seen, stop_told, seen_so, seen_both, stopped_then}
use Rattle.lrs_store.proofs.RowLemmas.{all_rows}
use Rattle.lrs_store.proofs.rows.read_trees.Goals as goal

pub returns-in_err-named-clause-seen : goal.returns-in_err-named-clause-seen
returns-in_err-named-clause-seen g c = none_seen _ _ c.from_residual.result c.from_residual.ensures.1

pub returns-in_err-named-clause-err : goal.returns-in_err-named-clause-err
returns-in_err-named-clause-err g c = stop_told c.from_residual.result c.from_residual.ensures.1 c.in_err-named.ensures.err

pub returns-in_err-routes-clause-seen : goal.returns-in_err-routes-clause-seen
returns-in_err-routes-clause-seen g c = none_seen _ _ c.from_residual-in_err-routes.result c.from_residual-in_err-routes.ensures.1

pub returns-in_err-routes-clause-err : goal.returns-in_err-routes-clause-err
returns-in_err-routes-clause-err g c = stop_told c.from_residual-in_err-routes.result c.from_residual-in_err-routes.ensures.1 (stopped_then c.in_ok-named.ensures.seen c.in_err-routes.ensures.err)

pub returns-in_err-ledgers-clause-seen : goal.returns-in_err-ledgers-clause-seen
returns-in_err-ledgers-clause-seen g c = none_seen _ _ c.from_residual-in_err-ledgers.result c.from_residual-in_err-ledgers.ensures.1

pub returns-in_err-ledgers-clause-err : goal.returns-in_err-ledgers-clause-err
returns-in_err-ledgers-clause-err g c =
    stop_told c.from_residual-in_err-ledgers.result c.from_residual-in_err-ledgers.ensures.1 (stopped_then c.in_ok-named.ensures.seen (stopped_then c.in_ok-routes.ensures.seen c.in_err-ledgers.ensures.err))

pub returns-clause-seen : goal.returns-clause-seen
returns-clause-seen g c =
    seen_so _ _ (λ db has. all_rows c.in_ok-named.named c.in_ok-routes.routes c.in_ok-ledgers.ledgers db has.0 has.1.0 has.1.1.0 has.1.1.1)
    (seen_both _ _ c.in_ok-named.ensures.seen (seen_both _ _ c.in_ok-routes.ensures.seen c.in_ok-ledgers.ensures.seen))

pub returns-clause-err : goal.returns-clause-err
returns-clause-err g c = tt
