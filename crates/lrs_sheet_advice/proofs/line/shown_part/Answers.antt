use Rattle.std.proofs.Common.{length-take-le, sym, arith}
use Rattle.lrs_sheet_advice.proofs.line.shown_part.Goals as goal

pub slice_bounds-result-end : goal.slice_bounds-result-end
slice_bounds-result-end c = sym (length-take-le 40 c.args.text.now (omega (arith, c.if-text-gt-MOST_SHOWN.true)))
