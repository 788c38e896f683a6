use Rattle.std.proofs.Common.{◌≡◌, ◌∙◌, sym, ap, is_lt, rules}
use Rattle.std.specs.Ordering.{nat_cmp}
use Rattle.std.proofs.lemmas.List.Sorted.{answers_always}
use Rattle.lrs_measure.specs.KeyOrder.{numbers_agree}
use Rattle.lrs_machine.specs.Sound.{link_before}
use Rattle.lrs_store_tables.proofs.Contents.Orders.{links_rank}
use Rattle.lrs_store_image.proofs.order.sorted_links.Goals as goal

pub returns-clause-sorted : goal.returns-clause-sorted
returns-clause-sorted c =
    c.sort_unstable_by.ensures.sorted link_before links_rank (answers_always _ (λ a r. is_lt r ≡ link_before a.0.now a.1.0.now) _ (λ f a r f' q.
    let e : r ≡ nat_cmp a.0.now.number a.1.0.now.number = search rules in
    ap is_lt e ∙ sym (numbers_agree a.0.now.number a.1.0.now.number)))
