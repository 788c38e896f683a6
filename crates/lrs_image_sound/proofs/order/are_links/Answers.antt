use Rattle.std.proofs.Common.{◌≡◌, rules}
use Rattle.std.proofs.lemmas.List.Sorted.{answers_always}
use Rattle.lrs_element.specs.declared.link.Link.{Link}
use Rattle.lrs_machine.specs.Sound.{link_before}
use Rattle.lrs_image_sound.proofs.Rising.{risen, less_chain}
use Rattle.lrs_image_sound.proofs.order.are_links.Goals as goal

pub returns : goal.returns
returns c =
    risen link_before (less_chain (λ (a : Link). a.number)) c.args.links.now c.is_sorted_by.result
    (c.is_sorted_by.ensures.cases link_before (answers_always _ (λ a r. r ≡ link_before a.0.now a.1.0.now) _ (λ f a r f' q. search rules)))
