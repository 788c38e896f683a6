use Rattle.std.proofs.Common.{◌∙◌, ◌++◌, [], ◌∷◌, length, ap, arith}
use Rattle.std.proofs.lemmas.List.{length-append}
use Rattle.lrs_events.specs.LaneLists.Lane.{greatest_from, last_from}
use Rattle.lrs_events.proofs.LaneLists.Fronts.{greatest_more, greatest_done}
use Rattle.lrs_events.proofs.lanes.lane.push_ends.Goals as goal

pub loop-row-init : goal.loop-row-init
loop-row-init c = record {
  ends = ap (λ m. c.args.greatest.now.items ++ greatest_from m c.args.rows.now) (c.last_of-most.ensures ∙ ap (last_from 0) c.deref.ensures.value);
  room = let room = c.requires in omega (arith, room);
  capacity = omega arith;
}

pub loop-row-preserved : goal.loop-row-preserved
loop-row-preserved c =
    let old = c.loop-row.greatest in
    let new = c.push_in_room.new.numbers in
    let items = c.push_in_room.ensures.items in
    record {
      ends = greatest_more c.args.rows.now c.loop-row.row-index c.loop-row.most c.max-most.result c.row-item.result old.items new.items _ c.loop-row-test.true c.row-item.is c.max-most.ensures items c.loop-row.invariant.ends;
      room =
          let lengths = ap length items ∙ length-append old.items (c.max-most.result ∷ []) in
          let a = old.ok.0 in
          let b = new.ok.0 in
          let room = c.loop-row.invariant.room in
          let kept = c.push_in_room.ensures.capacity in
          omega (arith, lengths, a, b, room, kept);
      capacity = let a = c.loop-row.invariant.capacity in let b = c.push_in_room.ensures.capacity in omega (arith, a, b);
    }

pub returns-clause-items : goal.returns-clause-items
returns-clause-items c = greatest_done c.args.rows.now c.loop-row.row-index c.loop-row.most c.loop-row.greatest.items _ c.loop-row-test.false c.loop-row.invariant.ends
