use Rattle.std.proofs.Common.{sym}
use Rattle.lrs_element.proofs.Lining.{last_mark_is}
use Rattle.lrs_element.proofs.marks.last_mark.Goals as goal

pub returns : goal.returns
returns c = sym (last_mark_is c.args.marks.now c.requires)
