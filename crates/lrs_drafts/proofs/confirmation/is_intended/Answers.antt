use Rattle.lrs_drafts.proofs.confirmation.is_intended.Goals as goal

pub returns-in-Split : goal.returns-in-Split
returns-in-Split c = rw c.in-Split.is c.changes_two.ensures

pub returns-in-Bypass : goal.returns-in-Bypass
returns-in-Bypass c = rw c.in-Bypass.is c.changes_two-in-Bypass.ensures

pub returns-in-Replace : goal.returns-in-Replace
returns-in-Replace c = rw c.in-Replace.is c.is_replaced.ensures

pub returns-in-Move : goal.returns-in-Move
returns-in-Move c = rw c.in-Move.is c.is_moved.ensures
