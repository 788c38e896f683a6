use Rattle.lrs_store_tables.specs.RowChanges.{without_marks, with_marks}
use Rattle.lrs_store_tables.proofs.Steady.{steady-with_marks}
use Rattle.lrs_store_commit.proofs.Last.{then_makes}
use Rattle.lrs_store_commit.proofs.routes.put_new_marks.Goals as goal

pub returns : goal.returns
returns g c =
    let route = c.args.route.now in
    let marks = c.args.marks.now in
    then_makes (without_marks route) (with_marks route 0 marks) (steady-with_marks route 0 marks) c.in_ok-drop_marks.ensures (rw (c.list.ensures.list) at c.write_all.ensures)
