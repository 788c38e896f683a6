use Rattle.std.proofs.Common.{List, ap, subst, sym, ◌∙◌, filter}
use Rattle.std.specs.Prelude.{IsTrue}
use Rattle.std.specs.List.{flat_map}
use Rattle.lrs_events.specs.Spans.{are_rows}
use Rattle.lrs_events.specs.declared.span.Span.{Span}
use Rattle.lrs_web_replies.proofs.Paging.{as_items}
use Rattle.lrs_report_lists.specs.RoadOrder.{in_road_order}
use Rattle.lrs_report_lists.specs.WantedRows.{is_wanted}
use Rattle.lrs_web_replies.specs.Listings.{row_items, rows_of}
use Rattle.lrs_web_replies.proofs.row_lists.add_rows_of.Goals as goal

pub rows_in_road_order-requires : goal.rows_in_road_order-requires
rows_in_road_order-requires c = subst (λ (z : List Span). IsTrue (are_rows z)) (sym c.rows.ensures.rows) c.rows.ensures.canonical

pub returns : goal.returns
returns c =
    let w = c.args.wanted.now in
    let assets = c.args.assets.now.rows in
    let e = c.args.route_row.now in
    as_items c.add_rows_on.result c.args.text.now c.add_rows_on.new.text _ (rows_of w assets e) c.add_rows_on.ensures
    (ap (flat_map (row_items w.form assets e.route)) (c.deref.ensures.value ∙ c.in_ok-rows.ensures ∙ ap (λ (z : List Span). in_road_order (filter (is_wanted w) z)) c.rows.ensures.rows))
