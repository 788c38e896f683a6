use Rattle.std.proofs.Common.{arith}
use Rattle.lrs_report_lists.proofs.Length.Numbered.{like_next}
use Rattle.lrs_report_lists.proofs.length_lists.held_assets.is_new.Goals as goal

pub returns-else-i-eq0 : goal.returns-else-i-eq0
returns-else-i-eq0 c = like_next c.args.numbers.now c.args.i 0 c.requires.order (omega (arith, c.if-i-eq0.false)) c.requires.within
