use Rattle.lrs_store_tables.specs.RowChanges.{without_pieces, without_marks, less_refs, less_spans}
use Rattle.lrs_store_tables.proofs.Steady.{steady-without_marks, steady-less_refs, steady-less_spans}
use Rattle.lrs_store_commit.proofs.Last.{then_makes, fails_behind, handed_on}
use Rattle.lrs_store_commit.proofs.routes.drop_route.Goals as goal

pub returns : goal.returns
returns g c =
    let route = c.args.route.now in
    let keys = c.args.keys.now in
    let two = then_makes (without_pieces route) (without_marks route) (steady-without_marks route) c.in_ok-drop_pieces.ensures c.in_ok-drop_marks.ensures in
    let three = then_makes (λ t. without_marks route (without_pieces route t)) (less_refs keys.refs) (steady-less_refs keys.refs) two (rw (c.as_slice.ensures) at c.in_ok-write_all.ensures) in
    then_makes (λ t. less_refs keys.refs (without_marks route (without_pieces route t))) (less_spans route keys.spans) (steady-less_spans route keys.spans) three (rw (c.as_slice-2.ensures) at c.write_all-2.ensures)

pub returns-in_err-drop_marks : goal.returns-in_err-drop_marks
returns-in_err-drop_marks g c = handed_on c.from_residual-in_err-drop_marks.result c.from_residual-in_err-drop_marks.ensures.1 (fails_behind c.in_ok-drop_pieces.ensures c.in_err-drop_marks.ensures)

pub returns-in_err-write_all : goal.returns-in_err-write_all
returns-in_err-write_all g c = handed_on c.from_residual-in_err-write_all.result c.from_residual-in_err-write_all.ensures.1 (fails_behind c.in_ok-drop_pieces.ensures (fails_behind c.in_ok-drop_marks.ensures c.in_err-write_all.ensures))
