use Rattle.std.proofs.Common.{◌∙◌, ap, sym}
use Rattle.std.specs.Prelude.{Option}
use Rattle.std.specs.List.{flat_map}
use Rattle.lrs_measure.specs.Texts.{Name}
use Rattle.lrs_report_lists.specs.Lists.{routes_named}
use Rattle.lrs_report_lists.proofs.Chosen.{all_chosen}
use Rattle.lrs_report_lists.proofs.Writing.{as_text}
use Rattle.lrs_report_answers.specs.Overlay.{overlay_of}
use Rattle.lrs_report_answers.proofs.overlay_lines.write_on_asked.Goals as goal

pub returns-in-Some : goal.returns-in-Some
returns-in-Some g c =
    let i = c.args.inventory.now in
    let text = overlay_of i c.args.wanted.now in
    let asked = λ (o : Option Name). flat_map text (routes_named o i) in
    as_text c.write_on_named.result _ _ _ (asked c.args.wanted.now.route) c.write_on_named.ensures (ap asked (sym c.in-Some.is))

pub returns-in-None : goal.returns-in-None
returns-in-None g c =
    let i = c.args.inventory.now in
    let text = overlay_of i c.args.wanted.now in
    let asked = λ (o : Option Name). flat_map text (routes_named o i) in
    as_text c.write_on_each.result _ _ _ (asked c.args.wanted.now.route) c.write_on_each.ensures (ap (flat_map text) (sym (all_chosen i.routes)) ∙ ap asked (sym c.in-None.is))
