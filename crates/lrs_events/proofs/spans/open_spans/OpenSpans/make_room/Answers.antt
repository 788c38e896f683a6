use Rattle.std.proofs.Common.{◌≡◌, ◌≤◌, ◌+◌, length, min, refl, ◌∙◌, arith, Result, Ok, Err, ℕ, ◌<◌, get_or, vec_len, vec_capacity, Vec, Global}
use Rattle.std.specs.Result.{OnOk}
use Rattle.lrs_events.specs.declared.spans.lanes.ClassLanes.{ClassLanes}
use Rattle.lrs_events.specs.RouteSpans.OpenRows.{HasLaneRoom, HaveRoom}
use Rattle.lrs_events.proofs.RouteSpans.Tying.{kept_same, same_has}
use Rattle.lrs_events.proofs.spans.open_spans.OpenSpans.make_room.Goals as goal

pub invariant_of-self-2 : goal.invariant_of-self-2
invariant_of-self-2 c =
    kept_same c.self.inside.rows.items c.reserve.new.self.items c.self.inside.lanes.items c.add_classes.new.lanes.items c.make_lanes_room.new.lanes.items c.reserve.ensures.items c.self.invariant c.add_classes.ensures.tied c.make_lanes_room.ensures.same

on_ok : {E P Q : Type 0} (r : Result (Unit {0}) E) → (P → Q) → OnOk r P → OnOk r Q
on_ok (Ok u) f h = f h
on_ok (Err e) f h = h

enough : {X : Type 0} (v p : Vec X Global) (n m : ℕ) → m ≡ n → vec_len v + m ≤ vec_capacity v → vec_len p + m ≤ vec_capacity p → length v.items + n ≤ min (vec_capacity v) (length v.items + vec_capacity p)
enough v p n m e g h = let k = v.ok.0 in omega (arith, e, g, h, k)

pub returns-clause-ok : goal.returns-clause-ok
returns-clause-ok c =
    let lanes = c.make_lanes_room.new.lanes.items in
    let have : ((k : ℕ) (d : ClassLanes) → k < length lanes → HasLaneRoom c.args.come.now (get_or lanes k d)) → HaveRoom c.args.come.now lanes = λ h. record {
      each = h;
      all = λ r m. same_has c.add_classes.new.lanes.items lanes c.make_lanes_room.ensures.same r.class ∙ c.in_ok-add_classes.ensures.ok r m;
    } in
    let n = enough c.reserve.new.self c.reserve-2.new.self (length c.args.come.now) _ refl c.in_ok-reserve.ensures.ok c.in_ok-reserve-2.ensures.ok in
    on_ok c.make_lanes_room.result (λ h. record { rows = n; lanes = have h }) c.make_lanes_room.ensures.ok
