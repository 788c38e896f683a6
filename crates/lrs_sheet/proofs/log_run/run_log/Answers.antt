use Rattle.lrs_sheet.proofs.Trying.{made}
use Rattle.lrs_sheet.proofs.log_run.run_log.Goals as goal

pub returns : goal.returns
returns g c = record {
  made = made g.K.Holder.may_hold (g.S.Read.remaining c.args.sheet) c.args.desk.now c.run_edits.new.desk _ _ c.run_edits.result c.requires.fresh c.requires.full c.run_edits.ensures;
}
