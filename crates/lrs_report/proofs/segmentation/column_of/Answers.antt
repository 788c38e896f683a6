use Rattle.std.proofs.Common.{ap, sym, subst, ◌∙◌, arith}
use Rattle.lrs_report.specs.SideValues.{asset_value}
use Rattle.lrs_report.specs.Columns.{IsColumn, value_at}
use Rattle.lrs_report.proofs.Following.{stretches_column, stretches_values}
use Rattle.lrs_report.proofs.Lanes.{IsLaneAmong, lane_follows, lane_values}
use Rattle.lrs_report.proofs.segmentation.column_of.Goals as goal

pub returns-clause-column : goal.returns-clause-column
returns-clause-column g c =
    let follow = lane_follows (g.A.KnownRows.rows c.args.assets.now) c.args.spans.now c.lane-lane.result.now c.args.class c.args.side c.args.len (record {
      kept = c.rows-canonical.ensures.canonical;
      known = c.requires.rows;
      assets_order = c.requires.order;
      one = c.requires.one;
      rows_are = c.lane-lane.ensures.rows;
      order = c.lane-lane.ensures.order;
    }) in
    subst (IsColumn 0 c.args.len) (sym c.new.ensures) (stretches_column (asset_value (g.A.KnownRows.rows c.args.assets.now)) c.args.len 0 c.lane-lane.result.now follow)

pub returns-clause-values : goal.returns-clause-values
returns-clause-values g c = λ j h.
    let on : IsLaneAmong (g.A.KnownRows.rows c.args.assets.now) c.args.spans.now c.lane-lane.result.now c.args.class c.args.side c.args.len = record {
      kept = c.rows-canonical.ensures.canonical;
      known = c.requires.rows;
      assets_order = c.requires.order;
      one = c.requires.one;
      rows_are = c.lane-lane.ensures.rows;
      order = c.lane-lane.ensures.order;
    } in
    let follow = lane_follows (g.A.KnownRows.rows c.args.assets.now) c.args.spans.now c.lane-lane.result.now c.args.class c.args.side c.args.len on in
    ap (λ ss. value_at ss j) c.new.ensures
    ∙ stretches_values (asset_value (g.A.KnownRows.rows c.args.assets.now)) c.args.len 0 j c.lane-lane.result.now follow (omega arith) h
    ∙ lane_values (g.A.KnownRows.rows c.args.assets.now) c.args.spans.now c.lane-lane.result.now c.args.class c.args.side c.args.len on j
