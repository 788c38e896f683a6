use Rattle.std.proofs.Common.{◌≡◌, Bool, false, ◌∙◌, sym, ap, subst, refl}
use Rattle.lrs_events.specs.declared.spans.lanes.ClassLanes.{ClassLanes}
use Rattle.lrs_events.specs.LaneLists.Lane.{LaneView}
use Rattle.lrs_events.specs.RouteSpans.LanesOfRows.{AreTied, has_lanes}
use Rattle.lrs_events.proofs.RouteSpans.Tying.{stay_added, added_has}
use Rattle.lrs_events.proofs.spans.lanes.add_class.Goals as goal

is_false : (b : Bool) → b ≡ false → b ≡ false
is_false b h = h

pub returns-in_ok-push-clause-tied : goal.returns-in_ok-push-clause-tied
returns-in_ok-push-clause-tied c rows t =
    let l : ClassLanes = record { class = c.args.class; left = c.new.result; right = c.new-then-not-has_lanes.result } in
    subst (AreTied rows) (sym c.in_ok-push.ensures.items)
    (stay_added c.args.lanes.now.items l (ap (λ z. has_lanes z c.args.class) (sym c.deref.ensures.value) ∙ sym c.has_lanes.ensures ∙ is_false _ c.if-not-has_lanes.true)
    (ap (λ (z : LaneView). z.rows) c.new.ensures) (ap (λ (z : LaneView). z.rows) c.new-then-not-has_lanes.ensures) rows t)

pub returns-in_ok-push-clause-ok : goal.returns-in_ok-push-clause-ok
returns-in_ok-push-clause-ok c =
    let l : ClassLanes = record { class = c.args.class; left = c.new.result; right = c.new-then-not-has_lanes.result } in
    ap (λ z. has_lanes z c.args.class) c.in_ok-push.ensures.items ∙ added_has c.args.lanes.now.items l c.args.class refl
