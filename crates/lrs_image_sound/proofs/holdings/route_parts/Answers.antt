use Rattle.std.proofs.Common.{List, subst}
use Rattle.lrs_events.specs.declared.span.Span.{Span}
use Rattle.lrs_image_sound.specs.HeldParts.{AreOfRoute}
use Rattle.lrs_image_sound.proofs.Fitting.{ok_so, ok_both}
use Rattle.lrs_image_sound.proofs.Rowed.{shown, filled_each}
use Rattle.lrs_image_sound.proofs.holdings.route_parts.Goals as goal

pub returns-clause-filled : goal.returns-clause-filled
returns-clause-filled c = ok_so _ _ c.parts.result (λ parts h. filled_each parts.items h) c.parts.ensures.filled

pub returns-clause-held : goal.returns-clause-held
returns-clause-held c =
    let course = c.args.route_row.now.route.course in
    let rows = c.rows.result.now in
    ok_both _ _ _ c.parts.result (λ parts once pairs.
    let made : AreOfRoute course rows parts.items = record { once = once; shows = shown course rows parts.items 0 pairs } in
    subst (λ (r : List Span). AreOfRoute course r parts.items) c.rows.ensures.rows made) c.parts.ensures.once c.parts.ensures.pairs
