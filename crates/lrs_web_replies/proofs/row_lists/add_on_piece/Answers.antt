use Rattle.std.proofs.Common.{Bor, [], ◌∷◌, ap, sym, ◌∙◌}
use Rattle.std.specs.Prelude.{Option}
use Rattle.std.specs.Option.{option_map, option_map_or}
use Rattle.lrs_events.specs.declared.class.Asset.{Asset}
use Rattle.lrs_report_lists.specs.declared.link_rows.LinkStretch.{LinkStretch}
use Rattle.lrs_web_replies.specs.Listings.{link_row_data, link_row_items}
use Rattle.lrs_web_replies.proofs.Paging.{as_items}
use Rattle.lrs_web_replies.proofs.row_lists.add_on_piece.Goals as goal

pub returns-in-Some : goal.returns-in-Some
returns-in-Some c =
    let a = option_map (λ (x : Bor Asset). x.now) c.args.asset in
    let route = c.args.route.now in
    let row = c.args.row.now in
    as_items c.add_stretch.result c.args.text.now c.add_stretch.new.text (link_row_data a route row c.in-Some.stretch ∷ []) (link_row_items a route row (c.args.start, c.args.piece)) c.add_stretch.ensures
    (ap (λ (o : Option LinkStretch). option_map_or (λ s. link_row_data a route row s ∷ []) o []) (sym c.in-Some.is ∙ c.on_piece.ensures))
