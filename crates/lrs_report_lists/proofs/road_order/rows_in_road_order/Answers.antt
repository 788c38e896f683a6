use Rattle.std.proofs.Common.{ap, ◌∙◌}
use Rattle.lrs_measure.specs.Lists.{each_two}
use Rattle.lrs_events.specs.Spans.{span_before}
use Rattle.lrs_report_lists.proofs.RoadOrder.{wanted_as_kept}
use Rattle.lrs_report_lists.proofs.road_order.rows_in_road_order.Goals as goal

pub sort-requires : goal.sort-requires
sort-requires c = ap (each_two span_before) c.in_ok-found.ensures ∙ wanted_as_kept c.args.wanted.now c.args.rows.now c.requires
