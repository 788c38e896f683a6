use Rattle.std.proofs.Common.{rules}
use Rattle.lrs_cli_sheets.proofs.Between.{ran-between}
use Rattle.lrs_cli_sheets.proofs.sheets.write_lines.Goals as goal

pub returns-in-Ok-into_inner : goal.returns-in-Ok-into_inner
returns-in-Ok-into_inner g c = record {
  ran = ran-between g.K.Holder.may_hold c.args.way (g.S.Read.remaining c.args.sheet) _ _ _ _ _ _ _ (search rules) c.in-Ok-into_inner.ensures.ok c.run-outcome.ensures;
  unwritten = tt;
  left = c.run-outcome.ensures.left;
}
