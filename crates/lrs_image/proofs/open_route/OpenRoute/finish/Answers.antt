use Rattle.std.proofs.Common.{◌∙◌}
use Rattle.lrs_events.specs.Changes.{changed}
use Rattle.lrs_events.specs.Spans.{span_before}
use Rattle.lrs_image.proofs.Becoming.{has_become}
use Rattle.lrs_image.proofs.open_route.OpenRoute.finish.Goals as goal

pub returns : goal.returns
returns c =
    let route = has_become c.args.change c.args.self.route _ c.requires.can.fits (record { name = λ j. c.args.change.name; course = c.unwrap_or.ensures; marks = c.unwrap_or-2.ensures; refs = c.unwrap_or-3.ensures ∙ c.requires.ready.refs }) in
    let rows = c.close.ensures ∙ c.change.ensures ∙ (λ j. changed span_before (c.as_slice.ensures j) (c.as_slice-2.ensures j) c.args.self.spans.rows) in
    λ j. record { route = route j; spans = rows j }
