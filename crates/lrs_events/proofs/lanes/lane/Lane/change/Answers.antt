use Rattle.std.proofs.Common.{◌≤◌, ◌∙◌, List, sym, ap, length, take, drop, arith}
use Rattle.lrs_measure.specs.Lists.{each_two}
use Rattle.lrs_events.specs.declared.span.Span.{Span}
use Rattle.lrs_events.specs.Changes.{changed}
use Rattle.lrs_events.specs.LaneLists.Order.{place_before, stand_before}
use Rattle.lrs_events.specs.LaneLists.Lane.{LaneView, greatest_from}
use Rattle.lrs_events.proofs.LaneLists.Inserted.{length-changed}
use Rattle.lrs_events.proofs.LaneLists.Fronts.{kept_front, front_fits, same_front, take-greatest}
use Rattle.lrs_events.proofs.lanes.lane.Lane.change.Goals as goal

pub push_greatest-requires-clause-start : goal.push_greatest-requires-clause-start
push_greatest-requires-clause-start c =
    let rows = c.self.inside.rows.items in
    let gone = c.args.gone.now in
    let come = c.args.come.now in
    let start = c.min-start.result in
    let new = c.change_in_room.new.rows.items in
    let kept = kept_front start c.front_before.result c.front_before-2.result gone come rows new c.min-start.ensures
    (ap (λ (z : List Span). stand_before c.front_before.result z gone) (sym c.deref.ensures.value) ∙ c.front_before.ensures.front)
    (ap (λ (z : List Span). stand_before c.front_before-2.result z come) (sym c.deref-2.ensures.value) ∙ c.front_before-2.ensures.front)
    c.change_in_room.ensures.items in
    let same = ap length c.deref.ensures.value in
    let first = c.front_before.ensures.within in
    let least = c.min-start.ensures in
    let within : start ≤ length rows = omega (arith, same, first, least) in
    let fits = front_fits start rows new (changed place_before gone come (drop start rows)) within kept in
    let now = ap length c.deref-3.ensures.value in
    omega (arith, fits, now)

pub push_greatest-requires-clause-front : goal.push_greatest-requires-clause-front
push_greatest-requires-clause-front c =
    let rows = c.self.inside.rows.items in
    let gone = c.args.gone.now in
    let come = c.args.come.now in
    let start = c.min-start.result in
    let new = c.change_in_room.new.rows.items in
    let kept = kept_front start c.front_before.result c.front_before-2.result gone come rows new c.min-start.ensures
    (ap (λ (z : List Span). stand_before c.front_before.result z gone) (sym c.deref.ensures.value) ∙ c.front_before.ensures.front)
    (ap (λ (z : List Span). stand_before c.front_before-2.result z come) (sym c.deref-2.ensures.value) ∙ c.front_before-2.ensures.front)
    c.change_in_room.ensures.items in
    let same = ap length c.deref.ensures.value in
    let first = c.front_before.ensures.within in
    let least = c.min-start.ensures in
    let within : start ≤ length rows = omega (arith, same, first, least) in
    c.truncate.ensures.items ∙ ap (take start) c.self.invariant.greatest_are ∙ take-greatest start 0 rows
    ∙ ap (greatest_from 0) (sym (same_front start rows new (changed place_before gone come (drop start rows)) within kept))
    ∙ ap (λ (z : List Span). greatest_from 0 (take start z)) (sym c.deref-3.ensures.value)

pub push_greatest-requires-clause-room : goal.push_greatest-requires-clause-room
push_greatest-requires-clause-room c =
    let now = ap length (c.deref-3.ensures.value ∙ c.change_in_room.ensures.items) in
    let most = length-changed place_before c.args.gone.now c.args.come.now c.self.inside.rows.items in
    let room = ap (λ (v : LaneView). v.room) c.self.view_is in
    let given = c.requires.room in
    let fit = c.self.invariant.greatest_fit in
    let capacity = c.truncate.ensures.capacity in
    omega (arith, now, most, room, given, fit, capacity)

pub invariant_of-self : goal.invariant_of-self
invariant_of-self c =
    let gone = c.args.gone.now in
    let come = c.args.come.now in
    let seen = ap (λ (v : LaneView). v.rows) c.self.view_is in
    let now = ap length c.change_in_room.ensures.items in
    let most = length-changed place_before gone come c.self.inside.rows.items in
    let room = ap (λ (v : LaneView). v.room) c.self.view_is in
    let given = c.requires.room in
    record {
      order = ap (each_two place_before) (c.change_in_room.ensures.items ∙ ap (changed place_before gone come) seen) ∙ c.requires.after;
      greatest_are = c.push_greatest.ensures.items ∙ ap (greatest_from 0) c.deref-3.ensures.value;
      rows_fit = let fit = c.self.invariant.rows_fit in let capacity = c.change_in_room.ensures.capacity in omega (arith, now, most, room, given, fit, capacity);
      greatest_fit = let fit = c.self.invariant.greatest_fit in let kept = c.truncate.ensures.capacity in let capacity = c.push_greatest.ensures.capacity in omega (arith, now, most, room, given, fit, kept, capacity);
    }
