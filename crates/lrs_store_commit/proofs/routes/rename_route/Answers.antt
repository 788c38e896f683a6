use Rattle.lrs_store_tables.specs.RowChanges.{renamed_pieces, renamed_marks, renamed_refs, renamed_spans}
use Rattle.lrs_store_tables.proofs.Steady.{steady-renamed_marks, steady-renamed_refs, steady-renamed_spans}
use Rattle.lrs_store_commit.proofs.Last.{then_makes, fails_behind, handed_on}
use Rattle.lrs_store_commit.proofs.routes.rename_route.Goals as goal

pub returns : goal.returns
returns g c =
    let route = c.args.route.now in
    let name = c.args.name.now in
    let keys = c.args.keys.now in
    let two = then_makes (renamed_pieces route name) (renamed_marks route name) (steady-renamed_marks route name) c.in_ok-rename_pieces.ensures c.in_ok-rename_marks.ensures in
    let three = then_makes (λ t. renamed_marks route name (renamed_pieces route name t)) (renamed_refs route name keys.refs) (steady-renamed_refs route name keys.refs) two (rw (c.as_slice.ensures) at c.in_ok-write_all.ensures) in
    then_makes (λ t. renamed_refs route name keys.refs (renamed_marks route name (renamed_pieces route name t))) (renamed_spans route name keys.spans) (steady-renamed_spans route name keys.spans) three
    (rw (c.as_slice-2.ensures) at c.write_all-2.ensures)

pub returns-in_err-rename_marks : goal.returns-in_err-rename_marks
returns-in_err-rename_marks g c = handed_on c.from_residual-in_err-rename_marks.result c.from_residual-in_err-rename_marks.ensures.1 (fails_behind c.in_ok-rename_pieces.ensures c.in_err-rename_marks.ensures)

pub returns-in_err-write_all : goal.returns-in_err-write_all
returns-in_err-write_all g c = handed_on c.from_residual-in_err-write_all.result c.from_residual-in_err-write_all.ensures.1 (fails_behind c.in_ok-rename_pieces.ensures (fails_behind c.in_ok-rename_marks.ensures c.in_err-write_all.ensures))
