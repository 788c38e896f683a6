use Rattle.std.proofs.Common.{[], ◌∷◌, Some, append-nil, ap, sym, ◌∙◌}
use Rattle.std.specs.Prelude.{Option}
use Rattle.std.specs.List.{flat_map}
use Rattle.std.specs.Option.{option_map_or}
use Rattle.lrs_machine.specs.declared.image.RouteRow.{RouteRow}
use Rattle.lrs_image.specs.Change.{is_named}
use Rattle.lrs_report_answers.proofs.Asked.{found_in}
use Rattle.lrs_report_answers.proofs.SideBySide.{route_alone}
use Rattle.lrs_report_lists.specs.Lists.{routes_named}
use Rattle.lrs_web_replies.specs.PagedText.{add_all}
use Rattle.lrs_web_replies.proofs.Paging.{as_items}
use Rattle.lrs_web_replies.specs.Overlay.{overlay_items}
use Rattle.lrs_web_replies.proofs.overlay.add_named_route.Goals as goal

pub add_sides-requires : goal.add_sides-requires
add_sides-requires c = record { known = found_in (is_named c.args.name.now) c.in-Some.route_row.now c.args.inventory.now.routes (sym c.in-Some.ensures.row) }

pub returns-in-Some : goal.returns-in-Some
returns-in-Some c =
    let i = c.args.inventory.now in
    let items = overlay_items i c.args.wanted.now in
    as_items c.add_sides.result c.args.text.now c.add_sides.new.text _ (flat_map items (routes_named (Some c.args.name.now) i)) c.add_sides.ensures
    (sym (append-nil (items c.in-Some.route_row.now)) ∙ ap (λ (o : Option RouteRow). flat_map items (option_map_or (λ (e : RouteRow). e ∷ []) o [])) c.in-Some.ensures.row
    ∙ ap (flat_map items) (sym (route_alone c.args.name.now i c.prove_sound.ensures)))

pub returns-in-None : goal.returns-in-None
returns-in-None c =
    let i = c.args.inventory.now in
    let items = overlay_items i c.args.wanted.now in
    ap (add_all c.args.text.now) (ap (λ (o : Option RouteRow). flat_map items (option_map_or (λ (e : RouteRow). e ∷ []) o [])) c.in-None.ensures.row ∙ ap (flat_map items) (sym (route_alone c.args.name.now i c.prove_sound.ensures)))
