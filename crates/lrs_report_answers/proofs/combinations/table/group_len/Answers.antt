use Rattle.lrs_report_answers.proofs.Combined.Groups.{group_is}
use Rattle.lrs_report_answers.proofs.combinations.table.group_len.Goals as goal

pub returns : goal.returns
returns c = group_is c.args.first.now c.args.entries.now c.count_alike.result c.requires.some c.requires.first c.requires.order c.count_alike.ensures
