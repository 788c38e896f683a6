use Rattle.std.proofs.Common.{◌≡◌, rules}
use Rattle.std.specs.Cmp.Lexicographic.{nat_list_cmp_total}
use Rattle.std.proofs.lemmas.List.Sorted.{answers_always}
use Rattle.lrs_events.specs.declared.class.Class.{Class}
use Rattle.lrs_machine.specs.Sound.{class_before}
use Rattle.lrs_image_sound.proofs.Rising.{risen, lt_chain}
use Rattle.lrs_image_sound.proofs.order.are_classes.Goals as goal

pub returns : goal.returns
returns c =
    risen class_before (lt_chain nat_list_cmp_total (λ (a : Class). a.name)) c.args.classes.now c.is_sorted_by.result
    (c.is_sorted_by.ensures.cases class_before (answers_always _ (λ a r. r ≡ class_before a.0.now a.1.0.now) _ (λ f a r f' q. search rules)))
