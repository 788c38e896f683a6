use Rattle.std.proofs.Common.{◌≡◌, ℕ, ◌+◌, ◌≤◌, List, Some, map, length, sym, ap, subst, ◌∙◌}
use Rattle.std.specs.Prelude.{nat_lt}
use Rattle.std.specs.List.{list_all}
use Rattle.lrs_inventory.specs.Prelude.{each_two, longest_route, Referent, Span, has_row, are_rows, span_before}
use Rattle.lrs_events.specs.Changes.{changed_rows}
use Rattle.lrs_events.specs.Row.Joins.{IsJoin}
use Rattle.lrs_image_laws.specs.Joins.{on_by}
use Rattle.lrs_inventory.proofs.Going.{plan_there, rows_by}
use Rattle.lrs_verbs.proofs.RouteVerbs.JoinRoutes.{refs_have_room}
use Rattle.lrs_verbs.proofs.routes.join.lengthened.Goals as goal

pub refs_on-requires : goal.refs_on-requires
refs_on-requires c =
    let b = c.args.rear.now in
    let room = subst (λ (n : ℕ). n + length b.route.course ≤ longest_route) (sym c.len-len.ensures.len) c.requires.room in
    record { room = ap (λ (l : List Referent). list_all (λ q. nat_lt (c.len-len.result + q.at) longest_route) l) c.as_slice.ensures ∙ refs_have_room b c.len-len.result room }

pub returns : goal.returns
returns c =
    let a = c.args.front.now in
    let b = c.args.rear.now in
    let is = c.changed.ensures in
    let spans = c.in_ok-spans.spans in
    let plan = c.in_ok-spans.ensures.plan in
    let gone : c.changed.result.spans_gone ≡ spans.gone.items = (λ j. (is j).spans_gone) in
    let after = rows_by a.spans c.changed.result spans gone (λ j. (is j).spans_come) in
    record {
      route = λ j. (is j).route;
      name = λ j. (is j).name;
      course = (λ j. (is j).course) ∙ ap Some c.requires.course;
      marks = (λ j. (is j).marks) ∙ ap Some c.requires.marks;
      refs_gone = (λ j. (is j).refs.gone) ∙ c.new.ensures;
      refs_come = (λ j. (is j).refs.come) ∙ c.in_ok-refs.ensures ∙ (λ j. map (on_by (c.len-len.ensures.len j)) (c.as_slice.ensures j));
      rows = ap are_rows (sym after) ∙ plan.kept;
      spans_gone = ap (each_two span_before) gone ∙ plan.in_order;
      spans_there = ap (list_all (has_row a.spans)) gone ∙ plan_there a.spans spans plan;
      join = subst (λ (rows : List Span). IsJoin (length a.route.course) a.spans b.spans rows) after
          (subst (λ (n : ℕ). IsJoin n a.spans b.spans (changed_rows spans a.spans)) c.len-len.ensures.len c.in_ok-spans.ensures.joined);
    }
