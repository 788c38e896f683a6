use Rattle.std.proofs.Common.{◌≡◌, ◌-◌, length, get_or}
use Rattle.lrs_element.specs.Marks.{no_mark}
use Rattle.lrs_position.proofs.Answering.{IsSound-from_route, last_at_end}
use Rattle.lrs_position.proofs.route.Route.length.Goals as goal

length_is : (c : goal.In-len1-up) → (get_or c.list.result.now (length c.list.result.now - 1) no_mark).chainage ≡ length c.args.self.now.course
length_is c = last_at_end c.args.self.now c.list.result.now no_mark c.list.ensures.list c.in-len1-up.len_at_least

pub returns-in-len1-up-clause-length : goal.returns-in-len1-up-clause-length
returns-in-len1-up-clause-length c = length_is c

pub returns-in-len1-up-clause-end : goal.returns-in-len1-up-clause-end
returns-in-len1-up-clause-end c = (IsSound-from_route c.args.self.now).end

pub returns-in-len1-up-clause-positive : goal.returns-in-len1-up-clause-positive
returns-in-len1-up-clause-positive c = rw (length_is c) (IsSound-from_route c.args.self.now).positive

pub returns-in-len1-up-clause-longest : goal.returns-in-len1-up-clause-longest
returns-in-len1-up-clause-longest c = rw (length_is c) (IsSound-from_route c.args.self.now).longest
