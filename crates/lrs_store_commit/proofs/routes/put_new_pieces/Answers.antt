use Rattle.std.proofs.Common.{Some}
use Rattle.lrs_store_tables.specs.RowChanges.{without_pieces, with_pieces}
use Rattle.lrs_store_tables.specs.Writes.{with_some, new_pieces}
use Rattle.lrs_store_tables.proofs.Steady.{steady-with_pieces}
use Rattle.lrs_store_commit.proofs.Last.{then_makes, makes_of}
use Rattle.lrs_store_commit.proofs.routes.put_new_pieces.Goals as goal

pub returns : goal.returns
returns g c =
    let route = c.args.route.now in
    let pieces = c.pieces.result.now in
    makes_of (Some c.args.course.now) (with_some (new_pieces route)) (Some pieces) (record { course_is = c.pieces.ensures.course; fewest = c.pieces.ensures.fewest })
    (then_makes (without_pieces route) (with_pieces route 0 pieces) (steady-with_pieces route 0 pieces) c.in_ok-drop_pieces.ensures c.write_all.ensures)
