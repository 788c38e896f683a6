use Rattle.lrs_sheet.proofs.Trying.{tried}
use Rattle.lrs_sheet.proofs.trial.try_sheet.Goals as goal

pub returns-in_default-clause-tried : goal.returns-in_default-clause-tried
returns-in_default-clause-tried g c =
    tried g.K.Holder.may_hold c.args.kind c.args.passed (g.S.Read.remaining c.args.sheet) c.args.copy.now c.run_behind-outcome.new.desk _ c.run_behind-outcome.new.writer.items c.run_behind-outcome.result
    c.new-replies.ensures.items c.requires.full c.run_behind-outcome.ensures
