use Rattle.std.proofs.Common.{rules, ◌≡◌, Result, Err}
use Rattle.lrs_image.specs.declared.keeper.CommitFault.{CommitFault}
use Rattle.lrs_image.specs.declared.keeper.CommitFault.TheVariants.{Store}
use Rattle.lrs_store.proofs.commit.write_next.Goals as goal

handed_on : {A B : Type 0} (given : Result A CommitFault) (answer : Result B CommitFault) (fault : CommitFault) → given ≡ Err fault → answer ≡ Err fault → answer ≡ Err Store → given ≡ Err Store
handed_on given answer fault was is e = let same : fault ≡ Store = cc in cc

pub returns-in_err-write_as-clause-store : goal.returns-in_err-write_as-clause-store
returns-in_err-write_as-clause-store g c e =
    let is : c.from_residual.result ≡ Err c.in_err-write_as.field-0.0 = search rules in
    c.write_as.ensures.store (handed_on c.write_as.result c.from_residual.result c.in_err-write_as.field-0.0 c.in_err-write_as.was is e)
