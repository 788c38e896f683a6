use Rattle.std.proofs.Common.{◌≡◌, ℕ, ◌+◌, ◌≤◌, true, List, map, length, refl, subst, sym, ap, ◌∙◌}
use Rattle.std.specs.Prelude.{nat_lt}
use Rattle.std.specs.List.{list_all}
use Rattle.lrs_inventory.specs.Prelude.{each_two, Referent, Span, longest_route, has_row, are_rows, span_before, holds_by_spans, AreGone}
use Rattle.lrs_events.specs.Changes.{changed_rows}
use Rattle.lrs_events.specs.RouteSpans.Realignment.{IsRealigned}
use Rattle.lrs_machine.specs.State.{Abandoned}
use Rattle.lrs_verbs.specs.RouteVerbs.Realignments.{refs_on, referents_moved}
use Rattle.lrs_inventory.proofs.Going.{plan_there, rows_by}
use Rattle.lrs_events.specs.RouteSpans.Realignment.{have_room_behind}
use Rattle.lrs_verbs.proofs.RouteVerbs.RealignChecks.{limit, room, in_limits}
use Rattle.lrs_verbs.proofs.routes.realign.realign_stretch.Goals as goal

pub plan_rows-requires-clause-room : goal.plan_rows-requires-clause-room
plan_rows-requires-clause-room c =
    subst (λ (n : ℕ). have_room_behind c.args.to (c.args.from + n) c.args.route_row.now.spans ≡ true) (sym c.len-len.ensures.len)
    (room c.args.route_row.now.route.course c.args.line.now.come c.args.line.now.course c.args.from c.args.to c.requires.order c.requires.inside c.requires.course c.len-len-2.ensures.limits c.args.route_row.now.spans c.requires.ends)

pub plan_rows-requires-clause-limit : goal.plan_rows-requires-clause-limit
plan_rows-requires-clause-limit c =
    subst (λ (n : ℕ). c.args.from + n ≤ longest_route) (sym c.len-len.ensures.len)
    (limit c.args.route_row.now.route.course c.args.line.now.come c.args.line.now.course c.args.from c.args.to c.requires.order c.requires.inside c.requires.course c.len-len-2.ensures.limits)

pub moved_referents-requires-clause-limit : goal.moved_referents-requires-clause-limit
moved_referents-requires-clause-limit c =
    subst (λ (n : ℕ). c.args.from + n ≤ longest_route) (sym c.len-len.ensures.len)
    (limit c.args.route_row.now.route.course c.args.line.now.come c.args.line.now.course c.args.from c.args.to c.requires.order c.requires.inside c.requires.course c.len-len-2.ensures.limits)

pub moved_referents-requires-clause-bounds : goal.moved_referents-requires-clause-bounds
moved_referents-requires-clause-bounds c = ap (list_all (λ (q : Referent). nat_lt q.at longest_route)) c.as_slice-2.ensures ∙ in_limits c.args.route_row.now

pub returns : goal.returns
returns c =
    let e = c.args.route_row.now in
    let from = c.args.from in
    let to = c.args.to in
    let is = c.changed.ensures in
    let realigned = c.in_ok-left.field-0 in
    let plan = c.in_ok-left.ensures.plan in
    let gone : c.changed.result.spans_gone ≡ realigned.change.gone.items = (λ j. (is j).spans_gone) in
    let after = rows_by e.spans c.changed.result realigned.change gone (λ j. (is j).spans_come) in
    record {
      route = λ j. (is j).route;
      name = λ j. (is j).name;
      course = refl;
      short = c.len-len-2.ensures.limits;
      marks = refl;
      refs = (λ j. (is j).refs) ∙ c.in_ok-refs.ensures ∙ (λ j. referents_moved from to (c.len-len.ensures.len j) (c.as_slice-2.ensures j));
      rows = ap are_rows (sym after) ∙ plan.kept;
      spans_gone = ap (each_two span_before) gone ∙ plan.in_order;
      spans_there = ap (list_all (has_row e.spans)) gone ∙ plan_there e.spans realigned.change plan;
      realigned = subst (λ (rows : List Span). IsRealigned from to (length c.args.line.now.come) e.spans rows) after
          (subst (λ (n : ℕ). IsRealigned from to n e.spans (changed_rows realigned.change e.spans)) c.len-len.ensures.len c.in_ok-left.ensures.realigned);
      left = realigned.left.items;
      left_are = c.in_ok-left.ensures.left;
      abandoned = subst (λ (rows : List Span). AreGone c.args.edit Abandoned (holds_by_spans e.route.course rows) c.in_ok-abandoned.abandoned) c.deref.ensures.value c.in_ok-abandoned.ensures;
      freed = c.in_ok-freed.ensures.course;
      freed_filled = c.in_ok-freed.ensures.filled;
      come = c.in_ok-come.ensures.course;
      come_filled = c.in_ok-come.ensures.filled;
      names = c.in_ok-names.ensures ∙ ap (λ (l : List Referent). map (λ q. q.name) (refs_on from to l)) c.as_slice.ensures;
    }
