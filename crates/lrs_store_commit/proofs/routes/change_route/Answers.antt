use Rattle.lrs_store_tables.specs.RowChanges.{renamed_route}
use Rattle.lrs_store_tables.specs.Writes.{changed_line, changed_refs, changed_spans}
use Rattle.lrs_store_tables.proofs.Steady.{steady-changed_refs, steady-changed_spans, steady-renamed_route}
use Rattle.lrs_store_commit.proofs.Last.{then_makes_of, fails_behind, handed_on}
use Rattle.lrs_store_commit.proofs.routes.change_route.Goals as goal

pub returns : goal.returns
returns g c =
    let change = c.args.change.now in
    let course = change.course in
    let two = then_makes_of course (changed_line change) (changed_refs change.route change.refs) (steady-changed_refs change.route change.refs) c.in_ok-change_line.ensures c.in_ok-change_refs.ensures in
    let three = then_makes_of course (λ pieces t. changed_refs change.route change.refs (changed_line change pieces t)) (changed_spans change) (steady-changed_spans change) two c.in_ok-change_spans.ensures in
    then_makes_of course (λ pieces t. changed_spans change (changed_refs change.route change.refs (changed_line change pieces t))) (renamed_route change.route change.name change.keys)
    (steady-renamed_route change.route change.name change.keys) three c.rename_if_new.ensures

pub returns-in_err-change_refs : goal.returns-in_err-change_refs
returns-in_err-change_refs g c = handed_on c.from_residual-in_err-change_refs.result c.from_residual-in_err-change_refs.ensures.1 (fails_behind c.in_ok-change_line.ensures c.in_err-change_refs.ensures)

pub returns-in_err-change_spans : goal.returns-in_err-change_spans
returns-in_err-change_spans g c = handed_on c.from_residual-in_err-change_spans.result c.from_residual-in_err-change_spans.ensures.1 (fails_behind c.in_ok-change_line.ensures (fails_behind c.in_ok-change_refs.ensures c.in_err-change_spans.ensures))
