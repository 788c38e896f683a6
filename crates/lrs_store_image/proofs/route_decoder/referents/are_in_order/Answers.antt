use Rattle.std.proofs.Common.{◌≡◌, rules}
use Rattle.std.specs.Cmp.Lexicographic.{nat_list_cmp_total}
use Rattle.std.proofs.lemmas.List.Sorted.{answers_always}
use Rattle.lrs_position.specs.declared.route.Referent.{Referent}
use Rattle.lrs_image_sound.proofs.Rising.{risen, lt_chain}
use Rattle.lrs_store_tables.specs.Contents.Content.{referent_before}
use Rattle.lrs_store_image.proofs.route_decoder.referents.are_in_order.Goals as goal

pub returns : goal.returns
returns c =
    risen referent_before (lt_chain nat_list_cmp_total (λ (a : Referent). a.name)) c.args.refs.now c.is_sorted_by.result
    (c.is_sorted_by.ensures.cases referent_before (answers_always _ (λ a r. r ≡ referent_before a.0.now a.1.0.now) _ (λ f a r f' q. search rules)))
