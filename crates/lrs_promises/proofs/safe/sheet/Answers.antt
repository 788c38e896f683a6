use Rattle.lrs_promises.proofs.Amid.{counts_failures}
use Rattle.lrs_promises.proofs.safe.sheet.Goals as goal

pub returns-clause-counts : goal.returns-clause-counts
returns-clause-counts g c =
    counts_failures g.K.Holder.may_hold c.args.desk.now c.run_sheet-ended.new.desk g.K.Holder.failures c.run_sheet-ended.result c.prove_kept.ensures.failures c.prove_kept-2.ensures.failures c.run_sheet-ended.ensures.desk
