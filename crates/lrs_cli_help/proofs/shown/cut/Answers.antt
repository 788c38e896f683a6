use Rattle.std.proofs.Common.{length-take-le, sym, arith}
use Rattle.lrs_cli_help.proofs.shown.cut.Goals as goal

pub slice_bounds-result-end : goal.slice_bounds-result-end
slice_bounds-result-end c = sym (length-take-le 60 c.args.text.now (omega (arith, c.if-text-gt-MOST_SHOWN.true)))
