use Rattle.std.proofs.Common.{◌∙◌, sym, ap, length, arith}
use Rattle.lrs_measure.specs.Lists.{each_two}
use Rattle.lrs_events.specs.LaneLists.Order.{place_before}
use Rattle.lrs_events.specs.LaneLists.Lane.{greatest_from}
use Rattle.lrs_events.proofs.LaneLists.Fronts.{length-greatest}
use Rattle.lrs_events.proofs.lanes.lane.Lane.make_room.Goals as goal

pub invariant_of-self-then-more-self : goal.invariant_of-self-then-more-self
invariant_of-self-then-more-self c =
    let rows = c.reserve.new.self in
    let greatest = c.reserve-then-more-self.new.self in
    let same = c.reserve.ensures.items in
    let are = c.reserve-then-more-self.ensures.items ∙ c.self.invariant.greatest_are ∙ sym (ap (greatest_from 0) same) in
    let lengths = ap length are ∙ length-greatest 0 rows.items in
    record {
      order = ap (each_two place_before) same ∙ c.self.invariant.order;
      greatest_are = are;
      rows_fit = let a = rows.ok.0 in let b = c.in_ok-reserve.ensures.ok in omega (arith, a, b);
      greatest_fit = let a = greatest.ok.0 in let b = c.in_ok-reserve-2.ensures.ok in omega (arith, a, b, lengths);
    }
