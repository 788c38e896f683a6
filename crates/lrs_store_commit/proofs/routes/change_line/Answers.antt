use Rattle.lrs_store_tables.specs.Writes.{with_some, new_pieces, new_marks}
use Rattle.lrs_store_tables.proofs.Steady.{steady_some, steady-new_marks}
use Rattle.lrs_store_commit.proofs.Last.{then_makes_of}
use Rattle.lrs_store_commit.proofs.routes.change_line.Goals as goal

pub returns : goal.returns
returns g c =
    let change = c.args.change.now in
    then_makes_of change.course (with_some (new_pieces change.route)) (with_some (new_marks change.route) change.marks) (steady_some (new_marks change.route) (steady-new_marks change.route) change.marks)
    c.in_ok-replace_pieces.ensures c.replace_marks.ensures
