use Rattle.std.proofs.Common.{ap, sym, ◌∙◌}
use Rattle.std.specs.Prelude.{Option}
use Rattle.std.specs.List.{flat_map}
use Rattle.lrs_measure.specs.Texts.{Name}
use Rattle.lrs_report_lists.specs.Lists.{routes_named}
use Rattle.lrs_report_lists.proofs.Chosen.{all_chosen}
use Rattle.lrs_web_replies.proofs.Paging.{as_items}
use Rattle.lrs_web_replies.specs.Overlay.{overlay_items}
use Rattle.lrs_web_replies.proofs.overlay.add_asked_routes.Goals as goal

pub returns-in-Some : goal.returns-in-Some
returns-in-Some c =
    let i = c.args.inventory.now in
    let items = overlay_items i c.args.wanted.now in
    let asked = λ (o : Option Name). flat_map items (routes_named o i) in
    as_items c.add_named_route.result c.args.text.now c.add_named_route.new.text _ (asked c.args.wanted.now.route) c.add_named_route.ensures (ap asked (sym c.in-Some.is))

pub returns-in-None : goal.returns-in-None
returns-in-None c =
    let i = c.args.inventory.now in
    let items = overlay_items i c.args.wanted.now in
    let asked = λ (o : Option Name). flat_map items (routes_named o i) in
    as_items c.add_each_route.result c.args.text.now c.add_each_route.new.text _ (asked c.args.wanted.now.route) c.add_each_route.ensures (ap (flat_map items) (sym (all_chosen i.routes)) ∙ ap asked (sym c.in-None.is))
