use Rattle.lrs_sheet.proofs.Running.{unlooked-run}
use Rattle.lrs_sheet.proofs.resumption.resume_sheet.Goals as goal

pub returns-in-Err : goal.returns-in-Err
returns-in-Err g c = unlooked-run c.args.sheet c.args.together c.args.text.now c.args.desk.now (g.W.Write.contents c.args.writer.now) c.in-Err.fault c.prove_kept.ensures.kept c.in-Err.ensures.faults
