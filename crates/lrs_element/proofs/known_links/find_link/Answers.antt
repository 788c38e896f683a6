use Rattle.lrs_element.proofs.Finding.{find_link_read, find_link_other, find_link_past}
use Rattle.lrs_element.proofs.known_links.find_link.Goals.{else-at-links-via-then-at-links+else-links-at, else-at-links-via-else-at-links}
use Rattle.lrs_element.proofs.known_links.find_link.Goals as goal

pub returns-then-links-at : goal.returns-then-links-at
returns-then-links-at c = find_link_read c.args.links.now c.args.number c.links_below-at.result _ _ c.links_below-at.ensures.below c.if-at-links.true c.if-links-at.true c.index-links-at-then-links-at.is

pub returns-else-at-links : goal.returns-else-at-links
returns-else-at-links c = elim c.else-at-links.branch [
  | else-at-links-via-then-at-links+else-links-at w ↦ find_link_other c.args.links.now c.args.number c.links_below-at.result _ c.requires c.links_below-at.ensures.below c.links_below-at.ensures.from w.if-links-at.false
  | else-at-links-via-else-at-links w ↦ find_link_past c.args.links.now c.args.number c.links_below-at.result c.requires c.links_below-at.ensures.below c.links_below-at.ensures.from w.if-at-links.false
]
