use Rattle.std.proofs.Common.{rules, ◌≡◌, List, Err, map, sym, ◌∙◌}
use Rattle.sqlite_value.specs.Order.{Row}
use Rattle.lrs_element.specs.declared.link.Link.{Link}
use Rattle.lrs_events.specs.declared.class.Asset.{Asset}
use Rattle.lrs_events.specs.declared.part.Part.{Part}
use Rattle.lrs_machine.specs.declared.image.RouteRow.{RouteRow}
use Rattle.lrs_events.specs.Parts.{part_before}
use Rattle.lrs_machine.specs.declared.table.Table.TheVariants as table
use Rattle.lrs_machine.specs.Sound.{are_entered, gone_before, are_gone}
use Rattle.lrs_image_sound.specs.Tables.{route_spans}
use Rattle.lrs_store_tables.specs.Contents.Decoders.{each_sorted, part_of, gone_of}
use Rattle.lrs_store_tables.specs.Contents.Content.{read}
use Rattle.lrs_store_tables.specs.StoredRows.{entered_in, gone_in}
use Rattle.lrs_store_image.proofs.InSteps.{no_gone, is_unsound}
use Rattle.lrs_store_image.proofs.steps.read_ledgers.Goals as goal

same_entered : {x y : List Row} {links links2 : List Link} {assets assets2 : List Asset} → x ≡ y → links ≡ links2 → assets ≡ assets2
    → read table.Entered (each_sorted part_before part_of (map entered_in x)) (are_entered links assets) ≡ read table.Entered (each_sorted part_before part_of (map entered_in y)) (are_entered links2 assets2)
same_entered r l a = λ i. read table.Entered (each_sorted part_before part_of (map entered_in (r i))) (are_entered (l i) (a i))

same_gone : {x y : List Row} {links links2 : List Link} {assets assets2 : List Asset} {routes routes2 : List RouteRow} {parts parts2 : List Part} → x ≡ y → links ≡ links2 → assets ≡ assets2 → routes ≡ routes2 → parts ≡ parts2
    → read table.Gone (each_sorted gone_before gone_of (map gone_in x)) (are_gone links assets (route_spans routes) parts) ≡ read table.Gone (each_sorted gone_before gone_of (map gone_in y)) (are_gone links2 assets2 (route_spans routes2) parts2)
same_gone r l a o p = λ i. read table.Gone (each_sorted gone_before gone_of (map gone_in (r i))) (are_gone (l i) (a i) (route_spans (o i)) (p i))

pub returns-in_err-left-clause-unsound : goal.returns-in_err-left-clause-unsound
returns-in_err-left-clause-unsound c u is_err e =
    let links = c.as_slice-links.ensures in
    let assets = c.as_slice-assets.ensures in
    let entered = same_entered c.as_slice.ensures.value links assets in
    let gone = same_gone c.as_slice-3.ensures.value links assets c.as_slice-routes.ensures c.as_slice-2.ensures in
    let is : c.from_residual-in_err-left.result ≡ Err c.in_err-left.field-0.0 = search rules in
    no_gone c.args.first (record { entered = map entered_in c.args.entered.items; gone = map gone_in c.args.gone.items }) e c.in_ok-parts.parts (sym entered ∙ c.in_ok-parts.ensures) u
    (sym gone ∙ is_unsound _ c.gone.result c.from_residual-in_err-left.result c.in_err-left.field-0.0 u c.in_err-left.was is is_err c.gone.ensures)
