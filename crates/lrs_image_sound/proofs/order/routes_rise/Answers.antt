use Rattle.std.proofs.Common.{◌≡◌, rules}
use Rattle.std.specs.Cmp.Lexicographic.{nat_list_cmp_total}
use Rattle.std.proofs.lemmas.List.Sorted.{answers_always}
use Rattle.lrs_machine.specs.declared.image.RouteRow.{RouteRow}
use Rattle.lrs_image_sound.specs.Tables.{route_before}
use Rattle.lrs_image_sound.proofs.Rising.{risen, lt_chain}
use Rattle.lrs_image_sound.proofs.order.routes_rise.Goals as goal

pub returns : goal.returns
returns c =
    risen route_before (lt_chain nat_list_cmp_total (λ (a : RouteRow). a.route.name)) c.args.routes.now c.is_sorted_by.result
    (c.is_sorted_by.ensures.cases route_before (answers_always _ (λ a r. r ≡ route_before a.0.now a.1.0.now) _ (λ f a r f' q. search rules)))
