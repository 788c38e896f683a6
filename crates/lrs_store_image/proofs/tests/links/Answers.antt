use Rattle.std.proofs.Common.{Ok, ap, ◌∙◌, rules}
use Rattle.lrs_machine.specs.Sound.{link_before}
use Rattle.lrs_machine.specs.Sound.{are_links}
use Rattle.lrs_machine.specs.declared.table.Table.TheVariants as table
use Rattle.lrs_store_tables.proofs.Contents.Orders.{links_rank}
use Rattle.lrs_store_image.proofs.Sorted.{passed, failed}
use Rattle.lrs_store_image.proofs.tests.links.Goals as goal

pub returns-then-not-are_links : goal.returns-then-not-are_links
returns-then-not-are_links c = failed link_before links_rank table.Link are_links (λ xs h. h) c.args.found.items c.sorted_links-links.result.items c.sorted_links-links.ensures.permutation c.sorted_links-links.ensures.sorted (search rules)

pub returns : goal.returns
returns c = ap Ok c.from_vec.ensures ∙ passed link_before links_rank table.Link are_links (λ xs h. h) c.args.found.items c.sorted_links-links.result.items c.sorted_links-links.ensures.permutation c.sorted_links-links.ensures.sorted (search rules)
