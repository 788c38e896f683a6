use Rattle.std.proofs.Common.{sym, ◌∙◌}
use Rattle.lrs_image_sound.specs.Tables.{route_spans}
use Rattle.lrs_image_sound.proofs.Fitting.{ok_so}
use Rattle.lrs_image_sound.proofs.Spanned.{spans_fail, spans_answer}
use Rattle.lrs_image_sound.proofs.spans.are_spans.Goals as goal

pub returns-then-not-fit : goal.returns-then-not-fit
returns-then-not-fit c = λ links courses. spans_fail links c.args.classes.now c.args.assets.now c.args.routes.now (sym c.in_ok-fit.ensures ∙ c.if-not-fit.true)

pub returns : goal.returns
returns c =
    ok_so _ _ c.keep_exclusive.result (λ kept h. λ links courses. spans_answer links c.args.classes.now c.args.assets.now c.args.routes.now c.in_ok-held.held.items kept
    (sym c.in_ok-fit.ensures ∙ c.if-not-fit.false) courses c.in_ok-held.ensures.filled c.in_ok-held.ensures.held (λ are. h links (route_spans c.args.routes.now) are)) c.keep_exclusive.ensures
