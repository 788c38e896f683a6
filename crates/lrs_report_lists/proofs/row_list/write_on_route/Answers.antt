use Rattle.std.proofs.Common.{Bor}
use Rattle.std.specs.Fmt.{decimal}
use Rattle.std.specs.Option.{option_map}
use Rattle.lrs_events.specs.declared.class.Asset.{Asset}
use Rattle.lrs_events.specs.Names.{side_text}
use Rattle.lrs_report_lists.specs.Lines.{row_line_with, said_of}
use Rattle.lrs_report_lists.specs.Measures.{measure_field}
use Rattle.lrs_report_lists.proofs.Writing.{appends_last, appends_more, row_parts}
use Rattle.lrs_report_lists.proofs.row_list.write_on_route.Goals as goal

pub returns : goal.returns
returns g c =
    let start = g.W.Write.contents c.args.writer.now in
    let place = g.W.Write.contents c.write_place.new.writer in
    let measures = g.W.Write.contents c.write_measures.new.writer in
    let holder = g.W.Write.contents c.write_holder.new.writer in
    let r = c.args.row.now in
    let route = c.args.route.now in
    let a = option_map (λ (x : Bor Asset). x.now) c.args.asset in
    let one = appends_more start place measures _ _ c.in_ok-write_place.ensures c.in_ok-write_measures.ensures in
    let two = appends_more start measures holder _ _ one c.in_ok-write_holder.ensures in
    appends_last c.write_asset.result start holder (g.W.Write.contents c.write_asset.new.writer) _ _ (row_line_with c.args.exact a route r) two c.write_asset.ensures
    (row_parts route.name (decimal r.from) (decimal r.to) (measure_field c.args.exact route.marks r.from) (measure_field c.args.exact route.marks r.to) (side_text r.side) (decimal r.asset) r.class
    (said_of (λ x. x.value) a) (said_of (λ x. decimal x.lateral) a) (said_of (λ x. decimal x.entered_by) a))
