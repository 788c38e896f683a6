use Rattle.std.proofs.Common.{sym, ◌∙◌}
use Rattle.lrs_image_sound.proofs.Knowing.{fit_fails, fit_answer}
use Rattle.lrs_image_sound.proofs.spans.fit_routes.Goals as goal

pub returns-then-not-end_on_routes : goal.returns-then-not-end_on_routes
returns-then-not-end_on_routes c = fit_fails c.args.assets.now c.args.routes.now (sym c.end_on_routes.ensures ∙ c.if-not-end_on_routes.true)

pub returns : goal.returns
returns c = (rw c.deref.ensures.value at c.are_known.ensures)
    ∙ fit_answer c.args.assets.now c.args.routes.now c.in_ok-rows.rows.items c.in_ok-rows.ensures (sym c.end_on_routes.ensures ∙ c.if-not-end_on_routes.false)
