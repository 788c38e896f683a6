use Rattle.std.proofs.Common.{◌≡◌, List, Some, map, ap, sym, subst, ◌∙◌}
use Rattle.std.specs.List.{list_all}
use Rattle.lrs_inventory.specs.Prelude.{each_two, is_too_long, Referent, is_route, Span, has_row, are_rows, span_before}
use Rattle.lrs_events.specs.Row.Cuts.{IsCut}
use Rattle.lrs_image_laws.specs.Splits.{back_by}
use Rattle.lrs_image_laws.proofs.Halved.{parts_are_routes}
use Rattle.lrs_verbs.specs.RouteVerbs.Splits.{refs_behind}
use Rattle.lrs_inventory.proofs.Going.{plan_there, rows_by}
use Rattle.lrs_verbs.proofs.routes.split.cut_route.Goals as goal

pub rear_route-route-requires : goal.rear_route-route-requires
rear_route-route-requires c =
    let r = c.args.route_row.now.route in
    let at = c.args.at in
    let refs = c.in_ok-refs.ensures ∙ ap (λ (l : List Referent). map (back_by at) (refs_behind at l)) c.as_slice-old.ensures in
    let parts = parts_are_routes r at c.requires.inner (ap is_too_long (sym c.in_ok-course.ensures.before) ∙ c.len-len.ensures.limits) (ap is_too_long (sym c.in_ok-course.ensures.after) ∙ c.len-rear_len.ensures.limits) in
    record { fit = (λ j. is_route (c.in_ok-course.ensures.after j) (c.in_ok-marks.ensures.after j) (refs j)) ∙ parts.2 }

pub returns : goal.returns
returns c =
    let e = c.args.route_row.now in
    let at = c.args.at in
    let is = c.changed-front.ensures in
    let rear = c.rear_route-route.ensures in
    let plan = c.in_ok-spans.ensures.plan in
    let gone : c.changed-front.result.spans_gone ≡ c.in_ok-spans.field-0.change.gone.items = (λ j. (is j).spans_gone) in
    let after = rows_by e.spans c.changed-front.result c.in_ok-spans.field-0.change gone (λ j. (is j).spans_come) in
    record {
      route = λ j. (is j).route;
      front_name = λ j. (is j).name;
      front_course = (λ j. (is j).course) ∙ ap Some c.in_ok-course.ensures.before;
      front_short = ap is_too_long (sym c.in_ok-course.ensures.before) ∙ c.len-len.ensures.limits;
      front_marks = (λ j. (is j).marks) ∙ ap Some c.in_ok-marks.ensures.before;
      refs_gone = (λ j. (is j).refs.gone) ∙ c.in_ok-names.ensures ∙ ap (λ (l : List Referent). map (λ q. q.name) (refs_behind at l)) c.as_slice-old.ensures;
      refs_come = (λ j. (is j).refs.come) ∙ c.new.ensures;
      front_rows = ap are_rows (sym after) ∙ plan.kept;
      spans_gone = ap (each_two span_before) gone ∙ plan.in_order;
      spans_there = ap (list_all (has_row e.spans)) gone ∙ plan_there e.spans c.in_ok-spans.field-0.change plan;
      rear_name = rear.name;
      rear_course = rear.course ∙ c.in_ok-course.ensures.after;
      rear_short = ap is_too_long (sym c.in_ok-course.ensures.after) ∙ c.len-rear_len.ensures.limits;
      rear_marks = rear.marks ∙ c.in_ok-marks.ensures.after;
      rear_refs = rear.refs ∙ c.in_ok-refs.ensures ∙ ap (λ (l : List Referent). map (back_by at) (refs_behind at l)) c.as_slice-old.ensures;
      rear_rows = c.in_ok-spans.ensures.rear;
      cut = subst (λ (rows : List Span). IsCut at e.spans rows c.in_ok-spans.field-0.spans) after c.in_ok-spans.ensures.cut;
    }
