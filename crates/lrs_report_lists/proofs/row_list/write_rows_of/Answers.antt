use Rattle.std.proofs.Common.{ap, ◌∙◌, subst, sym, filter, List}
use Rattle.std.specs.Prelude.{IsTrue}
use Rattle.std.specs.List.{flat_map}
use Rattle.lrs_events.specs.declared.span.Span.{Span}
use Rattle.lrs_events.specs.Spans.{are_rows}
use Rattle.lrs_report_lists.specs.LinkRows.{row_text}
use Rattle.lrs_report_lists.specs.Lists.{rows_of}
use Rattle.lrs_report_lists.specs.RoadOrder.{in_road_order}
use Rattle.lrs_report_lists.specs.WantedRows.{is_wanted}
use Rattle.lrs_report_lists.proofs.Writing.{as_text}
use Rattle.lrs_report_lists.proofs.row_list.write_rows_of.Goals as goal

pub rows_in_road_order-requires : goal.rows_in_road_order-requires
rows_in_road_order-requires g c = subst (λ (z : List Span). IsTrue (are_rows z)) (sym c.rows.ensures.rows) c.rows.ensures.canonical

pub returns : goal.returns
returns g c =
    let w = c.args.wanted.now in
    let assets = c.args.assets.now.rows in
    let e = c.args.route_row.now in
    as_text c.write_rows_on.result _ _ _ (rows_of w assets e) c.write_rows_on.ensures
    (ap (flat_map (row_text w.form assets e.route)) (c.deref.ensures.value ∙ c.in_ok-rows.ensures ∙ ap (λ z. in_road_order (filter (is_wanted w) z)) c.rows.ensures.rows))
