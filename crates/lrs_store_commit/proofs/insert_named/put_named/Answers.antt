use Rattle.lrs_store_tables.specs.RowChanges.{with_link, with_class, with_asset}
use Rattle.lrs_store_tables.specs.Writes.{with_some}
use Rattle.lrs_store_tables.proofs.Steady.{steady_some, steady-with_class, steady-with_asset}
use Rattle.lrs_store_commit.proofs.Last.{then_makes, fails_behind, handed_on}
use Rattle.lrs_store_commit.proofs.insert_named.put_named.Goals as goal

pub returns : goal.returns
returns g c =
    let d = c.args.difference.now in
    let two = then_makes (with_some with_link d.link) (with_some with_class d.class) (steady_some with_class steady-with_class d.class) c.in_ok-put_some_link.ensures c.in_ok-put_some_class.ensures in
    then_makes (λ t. with_some with_class d.class (with_some with_link d.link t)) (with_some with_asset d.asset) (steady_some with_asset steady-with_asset d.asset) two c.put_some_asset.ensures

pub returns-in_err-put_some_class : goal.returns-in_err-put_some_class
returns-in_err-put_some_class g c = handed_on c.from_residual-in_err-put_some_class.result c.from_residual-in_err-put_some_class.ensures.1 (fails_behind c.in_ok-put_some_link.ensures c.in_err-put_some_class.ensures)
