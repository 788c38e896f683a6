use Rattle.std.proofs.Common.{arith, ap, sym, subst₂, ◌∙◌, List, length}
use Rattle.std.specs.Option.{option_copied}
use Rattle.lrs_machine.specs.declared.segment.Segment.{Segment}
use Rattle.lrs_machine.specs.Image.{state_of}
use Rattle.lrs_report_answers.specs.CombinationParts.{Walks}
use Rattle.lrs_report_answers.proofs.Combined.Sides.{Step, walk_end, walk_first, walk_next}
use Rattle.lrs_report_answers.proofs.combinations.entries.push_route.Goals as goal

step : (c : goal.After-pass_ended-in-Some) → Step (state_of c.args.inventory.now) c.args.classes.now c.args.route_row.now.route.course c.args.entries.now.items c.push_next.new.entries.items c.loop-left.at c.in_ok-at.at c.loop-left.lefts c.loop-left.rights
step c =
    walk_next (state_of c.args.inventory.now) c.args.classes.now c.args.route_row.now.route.course c.args.entries.now.items c.loop-left.entries.items c.push_next.new.entries.items c.loop-left.at c.in_ok-at.at c.loop-left.lefts c.loop-left.rights
    c.in-Some.left.now c.loop-left.invariant (sym c.first.ensures ∙ ap option_copied c.in-Some.is) (λ y is. c.in_ok-at.ensures y (c.first-in-Some.ensures ∙ is))

pub loop-left-init : goal.loop-left-init
loop-left-init c =
    walk_first (state_of c.args.inventory.now) c.args.classes.now c.args.route_row.now.route.course c.args.entries.now.items c.in_ok-lefts.lefts c.in_ok-rights.rights c.in_ok-lefts.ensures c.in_ok-rights.ensures

pub loop-left-preserved : goal.loop-left-preserved
loop-left-preserved c =
    subst₂ (λ (ls rs : List Segment). Walks (state_of c.args.inventory.now) c.args.classes.now c.args.route_row.now.route.course c.args.entries.now.items c.push_next.new.entries.items c.in_ok-at.at ls rs)
    (sym c.pass_ended.ensures) (sym c.pass_ended-in-Some.ensures) (step c).walks

pub loop-left-smaller : goal.loop-left-smaller
loop-left-smaller c =
    let s = step c in
    let a = s.ahead in
    let w = s.within in
    omega (arith, a, w)
