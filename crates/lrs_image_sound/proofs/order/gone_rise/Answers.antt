use Rattle.std.proofs.Common.{◌≡◌, rules}
use Rattle.std.specs.Cmp.Lexicographic.{nat_list_cmp_total}
use Rattle.std.proofs.lemmas.List.Sorted.{answers_always}
use Rattle.lrs_events.specs.declared.part.Gone.{Gone}
use Rattle.lrs_machine.specs.Sound.{gone_key, gone_before}
use Rattle.lrs_image_sound.proofs.Rising.{risen, lt_chain}
use Rattle.lrs_image_sound.proofs.order.gone_rise.Goals as goal

pub returns : goal.returns
returns c =
    risen gone_before (lt_chain nat_list_cmp_total (λ (a : Gone). gone_key a)) c.args.gone.now c.is_sorted_by.result
    (c.is_sorted_by.ensures.cases gone_before (answers_always _ (λ a r. r ≡ gone_before a.0.now a.1.0.now) _ (λ f a r f' q. search rules)))
