use Rattle.std.proofs.Common.{◌∙◌, append-nil, ap, sym}
use Rattle.std.specs.Prelude.{Option}
use Rattle.std.specs.List.{flat_map}
use Rattle.lrs_events.specs.declared.side.LinkSide.{LinkSide}
use Rattle.lrs_report_lists.proofs.Writing.{as_text}
use Rattle.lrs_report_answers.specs.Overlay.{overlay_of, overlay_on, sides_of}
use Rattle.lrs_report_answers.proofs.overlay_lines.write_on_route.Goals as goal

pub returns-in-Some : goal.returns-in-Some
returns-in-Some g c =
    let i = c.args.inventory.now in
    let w = c.args.wanted.now in
    let e = c.args.route_row.now in
    as_text c.write_on_side.result _ _ _ (overlay_of i w e) c.write_on_side.ensures (sym (append-nil (overlay_on i w e c.in-Some.side)) ∙ ap (λ (o : Option LinkSide). flat_map (overlay_on i w e) (sides_of o)) (sym c.in-Some.is))
