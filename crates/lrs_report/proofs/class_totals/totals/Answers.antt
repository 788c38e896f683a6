use Rattle.std.proofs.Common.{map, ap, ◌∙◌}
use Rattle.lrs_report.specs.ListTally.{are_by_class, with_entered, with_gone, with_routes}
use Rattle.lrs_report.proofs.Tallied.{all_counted, first_order}
use Rattle.lrs_report.proofs.class_totals.totals.Goals as goal

pub add_entered-requires-clause-order : goal.add_entered-requires-clause-order
add_entered-requires-clause-order c = ap are_by_class c.in_ok-totals.ensures ∙ first_order c.args.classes.now c.requires.classes_order

pub returns : goal.returns
returns c =
    let assets = c.args.assets.now in
    let routes = map (λ s. s.now) c.args.spans.now in
    let entered = c.args.entered.now in
    let gone = c.args.gone.now in
    c.add_routes.ensures.sums
    ∙ ap (with_routes routes) (c.add_gone.ensures.sums ∙ ap (with_gone assets gone) (c.add_entered.ensures.sums ∙ ap (with_entered assets entered) c.in_ok-totals.ensures))
    ∙ all_counted c.args.classes.now assets routes entered gone
