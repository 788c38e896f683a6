use Rattle.std.proofs.Common.{◌≡◌, rules}
use Rattle.std.specs.Cmp.Lexicographic.{nat_list_cmp_total}
use Rattle.std.proofs.lemmas.List.Sorted.{answers_always}
use Rattle.lrs_events.specs.declared.part.Part.{Part}
use Rattle.lrs_events.specs.Parts.{part_key, part_before}
use Rattle.lrs_image_sound.proofs.Rising.{risen, lt_chain}
use Rattle.lrs_image_sound.proofs.order.entered_rise.Goals as goal

pub returns : goal.returns
returns c =
    risen part_before (lt_chain nat_list_cmp_total (λ (a : Part). part_key a)) c.args.entered.now c.is_sorted_by.result
    (c.is_sorted_by.ensures.cases part_before (answers_always _ (λ a r. r ≡ part_before a.0.now a.1.0.now) _ (λ f a r f' q. search rules)))
