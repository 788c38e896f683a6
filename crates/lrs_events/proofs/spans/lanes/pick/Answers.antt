use Rattle.std.proofs.Common.{vec_len, vec_capacity, [], ◌∷◌, ap, sym, ◌∙◌, arith}
use Rattle.lrs_events.specs.RouteSpans.LanesOfRows.{is_on}
use Rattle.lrs_events.proofs.RouteSpans.Pushes.{pushed, not_pushed, filtered_more}
use Rattle.lrs_events.proofs.spans.lanes.pick.Goals.{then-is_on, else-is_on}
use Rattle.lrs_events.proofs.spans.lanes.pick.Goals as goal

pub push_in_room-requires : goal.push_in_room-requires
push_in_room-requires c =
    let room = c.requires in
    let more = c.loop-row-test.true in
    let len = c.loop-row.invariant.len in
    let capacity = c.loop-row.invariant.capacity in
    omega (arith, room, more, len, capacity)

pub loop-row-preserved : goal.loop-row-preserved
loop-row-preserved c =
    let test = is_on c.args.class c.args.side in
    let r = c.row-item.result in
    let out = c.loop-row.picked.items in
    let new = c.if-is_on.picked.items in
    let before = c.loop-row.invariant in
    let len = before.len in
    let capacity = before.capacity in
    let step = filtered_more test c.args.rows.now c.loop-row.row-index r out new c.loop-row-test.true c.row-item.is before.picked in
    elim c.if-is_on.branch [
      | then-is_on w ↦ record {
        picked = step (pushed (test r) out new (r ∷ []) (sym c.is_on.ensures ∙ w.if-is_on.true) (ap (λ z. z.items) w.picked-is ∙ w.push_in_room.ensures.items));
        len = let a = ap vec_len w.picked-is in let b = w.push_in_room.ensures.len in omega (arith, a, b, len);
        capacity = let a = ap vec_capacity w.picked-is in let b = w.push_in_room.ensures.capacity in omega (arith, a, b, capacity);
      }
      | else-is_on w ↦ record {
        picked = step (not_pushed (test r) out new (r ∷ []) (sym c.is_on.ensures ∙ w.if-is_on.false) (ap (λ z. z.items) w.picked-is));
        len = let a = ap vec_len w.picked-is in omega (arith, a, len);
        capacity = let a = ap vec_capacity w.picked-is in omega (arith, a, capacity);
      }
    ]
