use Rattle.lrs_store_tables.specs.RowChanges.{with_entered, with_gone}
use Rattle.lrs_store_tables.proofs.Steady.{steady-with_gone}
use Rattle.lrs_store_commit.proofs.Last.{then_makes}
use Rattle.lrs_store_commit.proofs.commit.put_ledgers.Goals as goal

pub returns : goal.returns
returns g c =
    let d = c.args.difference.now in
    then_makes (with_entered d.entered) (with_gone d.gone) (steady-with_gone d.gone) (rw (c.as_slice.ensures) at c.in_ok-write_all.ensures) (rw (c.as_slice-2.ensures) at c.write_all-2.ensures)
