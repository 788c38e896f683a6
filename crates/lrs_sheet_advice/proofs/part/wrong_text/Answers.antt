use Rattle.std.proofs.Common.{rules}
use Rattle.lrs_sheet_advice.proofs.ListWords.{wrong_here}
use Rattle.lrs_sheet_advice.proofs.part.wrong_text.Goals as goal

pub returns-else-says : goal.returns-else-says
returns-else-says c = wrong_here c.args.word.now c.in-Some.text.now c.args.part c.place_of.result c.says.result c.place_of.ensures c.in-Some.ensures.some c.says.ensures (search rules)
