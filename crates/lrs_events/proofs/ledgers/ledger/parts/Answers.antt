use Rattle.lrs_events.proofs.Ledger.Made.{edit_is, filled_are, are_in_pieces, times_are, pairs_are, once_is, order_is, whole_is, shown_are, fewest_is}
use Rattle.lrs_events.proofs.ledgers.ledger.parts.Goals as goal

pub returns-clause-edit : goal.returns-clause-edit
returns-clause-edit c = edit_is _ _ _ _ _ (c.in_ok-parts.ensures) c.sort.ensures.same c.requires

pub returns-clause-pairs : goal.returns-clause-pairs
returns-clause-pairs c = pairs_are _ _ _ _ _ (c.in_ok-parts.ensures) c.sort.ensures.same c.requires

pub returns-clause-times : goal.returns-clause-times
returns-clause-times c = times_are _ _ _ _ _ (c.in_ok-parts.ensures) c.sort.ensures.same c.requires

pub returns-clause-once : goal.returns-clause-once
returns-clause-once c = once_is _ _ _ _ _ (c.in_ok-parts.ensures) c.sort.ensures.same c.requires

pub returns-clause-order : goal.returns-clause-order
returns-clause-order c = order_is _ _ _ _ _ (c.in_ok-parts.ensures) c.sort.ensures.same c.requires c.sort.ensures.order

pub returns-clause-filled : goal.returns-clause-filled
returns-clause-filled c = filled_are _ _ _ _ _ (c.in_ok-parts.ensures) c.sort.ensures.same c.requires

pub returns-clause-within : goal.returns-clause-within
returns-clause-within c = are_in_pieces _ _ _ _ _ (c.in_ok-parts.ensures) c.sort.ensures.same c.requires

pub returns-clause-whole : goal.returns-clause-whole
returns-clause-whole c = whole_is _ _ _ _ _ (c.in_ok-parts.ensures) c.sort.ensures.same c.requires

pub returns-clause-shows : goal.returns-clause-shows
returns-clause-shows c = shown_are _ _ _ _ _ (c.in_ok-parts.ensures) c.sort.ensures.same c.requires

pub returns-clause-fewest : goal.returns-clause-fewest
returns-clause-fewest c = fewest_is _ _ _ _ _ (c.in_ok-parts.ensures) c.sort.ensures.same c.requires
