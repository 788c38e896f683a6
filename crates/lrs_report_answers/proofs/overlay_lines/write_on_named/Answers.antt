use Rattle.std.proofs.Common.{◌∷◌, [], ◌∙◌, append-nil, ap, subst, sym, Some}
use Rattle.std.specs.Prelude.{ℕ, List, Option}
use Rattle.std.specs.Io.KnownBytes.{Appends}
use Rattle.std.specs.List.{flat_map}
use Rattle.std.specs.Option.{option_map_or}
use Rattle.lrs_machine.specs.declared.image.RouteRow.{RouteRow}
use Rattle.lrs_image.specs.Change.{is_named}
use Rattle.lrs_report_lists.specs.Lists.{routes_named}
use Rattle.lrs_report_lists.proofs.Writing.{appends_none, as_text}
use Rattle.lrs_report_answers.specs.Overlay.{overlay_of}
use Rattle.lrs_report_answers.proofs.Asked.{found_in}
use Rattle.lrs_report_answers.proofs.SideBySide.{route_alone}
use Rattle.lrs_report_answers.proofs.overlay_lines.write_on_named.Goals as goal

pub write_on_route-requires : goal.write_on_route-requires
write_on_route-requires g c = record { known = found_in (is_named c.args.name.now) c.in-Some.route_row.now c.args.inventory.now.routes (sym c.in-Some.ensures.row) }

pub returns-in-Some : goal.returns-in-Some
returns-in-Some g c =
    let i = c.args.inventory.now in
    let text = overlay_of i c.args.wanted.now in
    as_text c.write_on_route.result _ _ _ (flat_map text (routes_named (Some c.args.name.now) i)) c.write_on_route.ensures
    (sym (append-nil (text c.in-Some.route_row.now)) ∙ ap (λ (o : Option RouteRow). flat_map text (option_map_or (λ (e : RouteRow). e ∷ []) o [])) c.in-Some.ensures.row ∙ ap (flat_map text) (sym (route_alone c.args.name.now i c.prove_sound.ensures)))

pub returns-in-None : goal.returns-in-None
returns-in-None g c =
    let i = c.args.inventory.now in
    let text = overlay_of i c.args.wanted.now in
    let written = g.W.Write.contents c.args.writer.now in
    subst (λ (t : List ℕ). Appends written written t)
    (ap (λ (o : Option RouteRow). flat_map text (option_map_or (λ (e : RouteRow). e ∷ []) o [])) c.in-None.ensures.row ∙ ap (flat_map text) (sym (route_alone c.args.name.now i c.prove_sound.ensures))) (appends_none written)
