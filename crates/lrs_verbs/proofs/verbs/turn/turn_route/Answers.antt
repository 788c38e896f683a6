use Rattle.std.proofs.Common.{◌≡◌, ℕ, List, Some, map, length, ap, sym, subst, ◌∙◌}
use Rattle.std.specs.List.{list_all}
use Rattle.lrs_inventory.specs.Prelude.{each_two, is_too_long, Referent, Span, has_row, are_rows, span_before}
use Rattle.lrs_events.specs.Changes.{changed_rows}
use Rattle.lrs_events.specs.Row.Turns.{IsTurned}
use Rattle.lrs_image_laws.specs.Turns.{from_end}
use Rattle.lrs_inventory.proofs.Going.{plan_there, rows_by}
use Rattle.lrs_verbs.proofs.verbs.turn.turn_route.Goals as goal

pub returns : goal.returns
returns c =
    let e = c.args.route_row.now in
    let is = c.changed.ensures in
    let rows = c.in_ok-rows.rows in
    let plan = c.in_ok-rows.ensures.plan in
    let gone : c.changed.result.spans_gone ≡ rows.gone.items = (λ j. (is j).spans_gone) in
    let after = rows_by e.spans c.changed.result rows gone (λ j. (is j).spans_come) in
    record {
      route = λ j. (is j).route;
      name = λ j. (is j).name;
      course = (λ j. (is j).course) ∙ ap Some c.in_ok-course.ensures;
      short = ap is_too_long (sym c.in_ok-course.ensures) ∙ c.len-len.ensures.limits;
      marks = (λ j. (is j).marks) ∙ ap Some c.in_ok-marks.ensures;
      refs_gone = (λ j. (is j).refs.gone) ∙ c.in_ok-refs.ensures.gone ∙ ap (λ (l : List Referent). map (λ q. q.name) l) c.as_slice.ensures;
      refs_come = (λ j. (is j).refs.come) ∙ c.in_ok-refs.ensures.come ∙ (λ j. map (from_end (c.length-len.ensures.length j)) (c.as_slice.ensures j));
      rows = ap are_rows (sym after) ∙ plan.kept;
      spans_gone = ap (each_two span_before) gone ∙ plan.in_order;
      spans_there = ap (list_all (has_row e.spans)) gone ∙ plan_there e.spans rows plan;
      turned = subst (λ (new : List Span). IsTurned (length e.route.course) e.spans new) after
          (subst (λ (n : ℕ). IsTurned n e.spans (changed_rows rows e.spans)) c.length-len.ensures.length c.in_ok-rows.ensures.turned);
    }
