use Rattle.std.proofs.Common.{Some}
use Rattle.lrs_store_tables.specs.RowChanges.{with_pieces, with_marks, with_refs, with_spans}
use Rattle.lrs_store_tables.specs.Writes.{new_route}
use Rattle.lrs_store_tables.proofs.Steady.{steady-with_marks, steady-with_refs, steady-with_spans}
use Rattle.lrs_store_commit.proofs.Last.{then_makes, makes_of, fails_behind, handed_on}
use Rattle.lrs_store_commit.proofs.routes.put_route.Goals as goal

pub returns : goal.returns
returns g c =
    let route = c.args.route_row.now.route in
    let spans = c.args.route_row.now.spans in
    let pieces = c.pieces.result.now in
    let two = then_makes (with_pieces route.name 0 pieces) (with_marks route.name 0 route.marks) (steady-with_marks route.name 0 route.marks) c.in_ok-write_all.ensures (rw (c.list.ensures.list) at c.in_ok-write_all-2.ensures) in
    let three = then_makes (λ t. with_marks route.name 0 route.marks (with_pieces route.name 0 pieces t)) (with_refs route.name route.refs) (steady-with_refs route.name route.refs) two (rw (c.as_slice.ensures) at c.in_ok-write_all-3.ensures) in
    makes_of (Some route.course) (new_route c.args.route_row.now) (Some pieces) (record { course_is = c.pieces.ensures.course; fewest = c.pieces.ensures.fewest })
    (then_makes (λ t. with_refs route.name route.refs (with_marks route.name 0 route.marks (with_pieces route.name 0 pieces t))) (with_spans route.name spans) (steady-with_spans route.name spans) three
    (rw (c.rows.ensures.rows) at c.write_all-4.ensures))

pub returns-in_err-write_all-2 : goal.returns-in_err-write_all-2
returns-in_err-write_all-2 g c = handed_on c.from_residual-in_err-write_all-2.result c.from_residual-in_err-write_all-2.ensures.1 (fails_behind c.in_ok-write_all.ensures c.in_err-write_all-2.ensures)

pub returns-in_err-write_all-3 : goal.returns-in_err-write_all-3
returns-in_err-write_all-3 g c = handed_on c.from_residual-in_err-write_all-3.result c.from_residual-in_err-write_all-3.ensures.1 (fails_behind c.in_ok-write_all.ensures (fails_behind c.in_ok-write_all-2.ensures c.in_err-write_all-3.ensures))
