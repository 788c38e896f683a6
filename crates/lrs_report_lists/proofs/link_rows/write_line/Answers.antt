use Rattle.std.proofs.Common.{Bor}
use Rattle.std.specs.Fmt.{decimal}
use Rattle.std.specs.Option.{option_map}
use Rattle.lrs_events.specs.declared.class.Asset.{Asset}
use Rattle.lrs_events.specs.Names.{side_text}
use Rattle.lrs_report_lists.specs.LinkRows.{link_row_line}
use Rattle.lrs_report_lists.specs.Lines.{said_of}
use Rattle.lrs_report_lists.proofs.LinkLines.{link_row_parts}
use Rattle.lrs_report_lists.proofs.Writing.{appends_last, appends_more}
use Rattle.lrs_report_lists.proofs.link_rows.write_line.Goals as goal

pub returns : goal.returns
returns g c =
    let start = g.W.Write.contents c.args.writer.now in
    let asset = g.W.Write.contents c.write_asset.new.writer in
    let value = g.W.Write.contents c.write_value.new.writer in
    let stretch = g.W.Write.contents c.write_stretch.new.writer in
    let r = c.args.row.now in
    let route = c.args.route.now in
    let s = c.args.stretch in
    let a = option_map (λ (x : Bor Asset). x.now) c.args.asset in
    let one = appends_more start asset value _ _ c.in_ok-write_asset.ensures c.in_ok-write_value.ensures in
    let two = appends_more start value stretch _ _ one c.in_ok-write_stretch.ensures in
    appends_last c.write_route.result start stretch (g.W.Write.contents c.write_route.new.writer) _ _ (link_row_line a route r s) two c.write_route.ensures
    (link_row_parts (decimal r.asset) r.class (said_of (λ x. x.value) a) (said_of (λ x. decimal x.lateral) a) (decimal s.link) (decimal s.from) (decimal s.to) (side_text s.side) route.name)
