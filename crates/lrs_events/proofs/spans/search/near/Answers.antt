use Rattle.std.proofs.Common.{[], refl, sym, subst, ◌≡◌}
use Rattle.std.specs.List.{filter}
use Rattle.lrs_events.specs.declared.side.LinkSide.{LinkSide}
use Rattle.lrs_events.specs.LaneLists.Lane.{is_met}
use Rattle.lrs_events.specs.declared.spans.lanes.ClassLanes.{ClassLanes}
use Rattle.lrs_events.specs.RouteSpans.Search.{AreNear}
use Rattle.lrs_events.proofs.RouteSpans.Finding.{left_is, right_is, empty_is}
use Rattle.lrs_events.proofs.spans.search.near.Goals as goal

pub returns-in-Left : goal.returns-in-Left
returns-in-Left c =
    let rows = c.args.rows.now in
    let class = c.args.class in
    let l = c.index-lanes-at.result in
    let test = is_met c.args.from c.args.to in
    let lane = left_is rows c.args.lanes.now class c.place_of-at.result c.requires.kept c.place_of-at.ensures l c.if-at-lanes.true c.index-lanes-at.is in
    subst (λ (s : LinkSide). AreNear rows class s c.args.from c.args.to c.near.result.now) (sym c.in-Left.is)
    (l.left.rows, lane, subst (λ (z : ClassLanes). filter test c.near.result.now ≡ filter test z.left.rows) (sym c.index-lanes-at.is) c.near.ensures)

pub returns-in-Right : goal.returns-in-Right
returns-in-Right c =
    let rows = c.args.rows.now in
    let class = c.args.class in
    let l = c.index-lanes-at-in-Right.result in
    let test = is_met c.args.from c.args.to in
    let lane = right_is rows c.args.lanes.now class c.place_of-at.result c.requires.kept c.place_of-at.ensures l c.if-at-lanes.true c.index-lanes-at-in-Right.is in
    subst (λ (s : LinkSide). AreNear rows class s c.args.from c.args.to c.near-in-Right.result.now) (sym c.in-Right.is)
    (l.right.rows, lane, subst (λ (z : ClassLanes). filter test c.near-in-Right.result.now ≡ filter test z.right.rows) (sym c.index-lanes-at-in-Right.is) c.near-in-Right.ensures)

pub returns-else-at-lanes : goal.returns-else-at-lanes
returns-else-at-lanes c =
    ([], empty_is c.args.rows.now c.args.lanes.now c.args.class c.place_of-at.result c.requires.kept c.place_of-at.ensures c.args.side c.if-at-lanes.false, refl)
