use Rattle.std.proofs.Common.{◌≤◌, length, map, rules}
use Rattle.lrs_difference.specs.Placed.{entry_of}
use Rattle.lrs_difference.proofs.Gathered.{no_entry}
use Rattle.lrs_difference.proofs.referent_list.push_referent.Goals as goal

pub returns-then-len-referent : goal.returns-then-len-referent
returns-then-len-referent c =
    let past : length c.args.course.now ≤ c.args.referent.now.at = search rules in
    no_entry c.args.course.now c.args.referent.now (map entry_of c.args.entries.now.items) past
