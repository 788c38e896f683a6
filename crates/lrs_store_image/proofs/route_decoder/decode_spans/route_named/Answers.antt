use Rattle.std.proofs.Common.{◌∙◌, Some, ap, sym, rules}
use Rattle.std.proofs.lemmas.Fn.{always_returns_same}
use Rattle.lrs_measure.specs.Texts.{name_cmp}
use Rattle.lrs_position.specs.declared.route.Route.{Route}
use Rattle.lrs_store_image.proofs.DecodedRoutes.Found.{route_found, route_missing}
use Rattle.lrs_store_image.proofs.route_decoder.decode_spans.route_named.Goals as goal

pub returns-in-Ok : goal.returns-in-Ok
returns-in-Ok c =
    let is = c.in-Ok.ensures in
    let n = c.args.text.now in
    ap (λ (y : Route). Some y.name) (sym c.index-routes-at.is)
    ∙ route_found c.args.routes.now n c.in-Ok.at c.index-routes-at.result is.bound c.index-routes-at.is (is.position (λ (y : Route). name_cmp y.name n) (always_returns_same _ _ _ (λ a r f called. search rules)))

pub returns-in-Err : goal.returns-in-Err
returns-in-Err c =
    let is = c.in-Err.ensures in
    let n = c.args.text.now in
    route_missing c.args.routes.now n c.in-Err.field-0 c.requires is.bound (is.position (λ (y : Route). name_cmp y.name n) (always_returns_same _ _ _ (λ a r f called. search rules)))
