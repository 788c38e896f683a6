use Rattle.lrs_cli_sheets.proofs.Between.{keeps-same, ran-between}
use Rattle.lrs_cli_sheets.proofs.sheets.write_pieces.Goals as goal

pub returns : goal.returns
returns g c = record {
  ran = ran-between g.K.Holder.may_hold c.args.way (g.S.Read.remaining c.args.sheet) _ _ _ _ _ _ _ (keeps-same _ _ c.in_ok-pieces.ensures.same) c.in_ok-behind.ensures.same c.run-outcome.ensures;
  unwritten = tt;
  left = c.run-outcome.ensures.left;
}
