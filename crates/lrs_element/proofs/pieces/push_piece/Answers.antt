use Rattle.std.proofs.Common.{◌≡◌, ◌+◌, length, sym, ap, ◌∙◌}
use Rattle.lrs_element.proofs.Counting.{course_of-set_read, IsFewest-set_read, IsFewest-push}
use Rattle.lrs_element.proofs.pieces.push_piece.Goals as goal

last_is : (c : goal.After-pieces-1) → length c.args.pieces.now.items ≡ c.in-Some.at + 1
last_is c = sym (ap length c.deref.ensures.value) ∙ c.in-Some.ensures.found.last

pub returns-in-Some-clause-ok : goal.returns-in-Some-clause-ok
returns-in-Some-clause-ok c = course_of-set_read _ c.in-Some.at _ c.args.piece _ (last_is c) c.index-last.ensures c.joined.ensures.joined

pub returns-in-Some-clause-fewest : goal.returns-in-Some-clause-fewest
returns-in-Some-clause-fewest c = IsFewest-set_read _ c.in-Some.at _ c.args.piece _ (last_is c) c.index-last.ensures c.requires.fewest c.requires.filled c.joined.ensures.filled (rw c.deref.ensures.value at (c.in-Some.ensures.found.continued c.args.piece)) c.joined.ensures.joined

pub returns-in_ok-push-in-None-clause-fewest : goal.returns-in_ok-push-in-None-clause-fewest
returns-in_ok-push-in-None-clause-fewest c = rw c.in_ok-push-in-None.ensures.items (IsFewest-push _ _ c.requires.fewest c.requires.filled (rw c.deref.ensures.value at c.in-None.ensures.none))
