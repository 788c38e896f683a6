use Rattle.std.proofs.Common.{◌≡◌, ◌∙◌, sym, ap}
use Rattle.std.specs.Prelude.{◌&&◌}
use Rattle.std.proofs.lemmas.Result.{IfOk-weaker}
use Rattle.lrs_store_image.specs.DecodedRoutes.Courses.{fit_together}
use Rattle.lrs_store_image.proofs.DecodedRoutes.Reading.{share_nothing}
use Rattle.lrs_store_image.proofs.route_decoder.courses.fit_together.Goals as goal

pub returns-then-not-are_few : goal.returns-then-not-are_few
returns-then-not-are_few c = ap (λ b. b && share_nothing c.args.courses.now) (sym c.if-not-are_few.true ∙ c.are_few.ensures)

pub returns : goal.returns
returns c =
    IfOk-weaker c.are_apart.result (λ fit. fit ≡ share_nothing c.args.courses.now) (λ fit. fit ≡ fit_together c.args.courses.now)
    (λ fit h. h ∙ ap (λ b. b && share_nothing c.args.courses.now) (sym c.if-not-are_few.false ∙ c.are_few.ensures))
    c.are_apart.ensures
