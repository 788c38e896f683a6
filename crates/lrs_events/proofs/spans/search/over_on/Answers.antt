use Rattle.std.proofs.Common.{sym, subst}
use Rattle.lrs_events.specs.declared.side.LinkSide.{LinkSide}
use Rattle.lrs_events.specs.declared.side.LinkSide.TheVariants.{Left, Right}
use Rattle.lrs_events.specs.LaneLists.Lane.{is_met, IsLeast}
use Rattle.lrs_events.specs.declared.spans.lanes.ClassLanes.{ClassLanes}
use Rattle.lrs_events.specs.RouteSpans.Search.{one_side, IsOver}
use Rattle.lrs_events.proofs.RouteSpans.Finding.{left_is, right_is, empty_is, least_over, least_nothing}
use Rattle.lrs_events.proofs.spans.search.over_on.Goals as goal

pub returns-in-Left : goal.returns-in-Left
returns-in-Left c =
    let rows = c.args.rows.now in
    let class = c.args.class in
    let l = c.index-lanes-at.result in
    let lane = left_is rows c.args.lanes.now class c.place_of-at.result c.requires.kept c.place_of-at.ensures l c.if-at-lanes.true c.index-lanes-at.is in
    subst (λ (s : LinkSide). IsOver rows class c.args.from c.args.to (one_side s) c.over.result) (sym c.in-Left.is)
    (least_over rows class Left l.left.rows c.args.from c.args.to c.requires.kept.canonical lane c.requires.filled c.over.result
    (subst (λ (z : ClassLanes). IsLeast (is_met c.args.from c.args.to) z.left.rows c.over.result) (sym c.index-lanes-at.is) c.over.ensures))

pub returns-in-Right : goal.returns-in-Right
returns-in-Right c =
    let rows = c.args.rows.now in
    let class = c.args.class in
    let l = c.index-lanes-at-in-Right.result in
    let lane = right_is rows c.args.lanes.now class c.place_of-at.result c.requires.kept c.place_of-at.ensures l c.if-at-lanes.true c.index-lanes-at-in-Right.is in
    subst (λ (s : LinkSide). IsOver rows class c.args.from c.args.to (one_side s) c.over-in-Right.result) (sym c.in-Right.is)
    (least_over rows class Right l.right.rows c.args.from c.args.to c.requires.kept.canonical lane c.requires.filled c.over-in-Right.result
    (subst (λ (z : ClassLanes). IsLeast (is_met c.args.from c.args.to) z.right.rows c.over-in-Right.result) (sym c.index-lanes-at-in-Right.is) c.over-in-Right.ensures))

pub returns-else-at-lanes : goal.returns-else-at-lanes
returns-else-at-lanes c =
    let rows = c.args.rows.now in
    least_nothing rows c.args.class c.args.side c.args.from c.args.to c.requires.kept.canonical c.requires.filled
    (empty_is rows c.args.lanes.now c.args.class c.place_of-at.result c.requires.kept c.place_of-at.ensures c.args.side c.if-at-lanes.false)
