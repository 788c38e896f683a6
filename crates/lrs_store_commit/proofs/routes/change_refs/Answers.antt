use Rattle.lrs_store_tables.specs.RowChanges.{less_refs, with_refs}
use Rattle.lrs_store_tables.proofs.Steady.{steady-with_refs}
use Rattle.lrs_store_commit.proofs.Last.{then_makes}
use Rattle.lrs_store_commit.proofs.routes.change_refs.Goals as goal

pub returns : goal.returns
returns g c =
    let route = c.args.route.now in
    let refs = c.args.refs.now in
    then_makes (less_refs refs.gone) (with_refs route refs.come) (steady-with_refs route refs.come) (rw (c.as_slice.ensures) at c.in_ok-write_all.ensures) (rw (c.as_slice-2.ensures) at c.write_all-2.ensures)
