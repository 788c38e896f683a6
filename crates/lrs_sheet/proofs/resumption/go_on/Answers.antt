use Rattle.std.proofs.lemmas.Result.{err_from_is_err_and}
use Rattle.lrs_sheet.proofs.Running.{resumed-run, unsearched-run}
use Rattle.lrs_sheet.proofs.resumption.go_on.Goals as goal

pub returns-in_err-found : goal.returns-in_err-found
returns-in_err-found g c =
    let p = err_from_is_err_and c.from_residual.result c.from_residual.ensures.1 in
    rw (p.1, p.2) (unsearched-run c.args.sheet c.args.together c.args.text.now c.args.desk.now (g.W.Write.contents c.args.writer.now) _ c.prove_kept.ensures.kept c.in_err-found.ensures.faults)

pub returns : goal.returns
returns g c = resumed-run c.args.sheet c.args.together c.args.text.now c.args.desk.now c.run_behind.new.desk (g.W.Write.contents c.args.writer.now) (g.W.Write.contents c.run_behind.new.writer) c.run_behind.result c.in_ok-found.found c.requires.once c.in_ok-found.ensures.decided c.run_behind.ensures
