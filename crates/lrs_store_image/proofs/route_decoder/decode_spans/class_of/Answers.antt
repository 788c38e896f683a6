use Rattle.std.proofs.Common.{◌≡◌, Some, ap, sym, ◌∙◌, rules}
use Rattle.std.proofs.lemmas.List.Sorted.{answers_always}
use Rattle.lrs_events.specs.declared.class.Asset.{Asset}
use Rattle.lrs_image_sound.proofs.Keyed.{row_found, row_missing}
use Rattle.lrs_store_image.proofs.DecodedRoutes.Found.{class_found, class_missing}
use Rattle.lrs_store_image.proofs.route_decoder.decode_spans.class_of.Goals as goal

pub returns-in-Ok : goal.returns-in-Ok
returns-in-Ok c =
    let is = c.in-Ok.ensures in
    ap (λ (y : Asset). Some y.class) (sym c.index-assets-at.is)
    ∙ class_found c.args.assets.now c.args.number c.index-assets-at.result (λ test.
    row_found (λ (y : Asset). y.number) test c.args.assets.now c.args.number c.in-Ok.at c.index-assets-at.result c.requires is.bound (is.position (λ (y : Asset). y.number) (answers_always _ (λ a r. r ≡ a.0.now.number) _ (λ f a r g called. search rules)))
    ∙ ap test (sym c.index-assets-at.is))

pub returns-in-Err : goal.returns-in-Err
returns-in-Err c =
    let is = c.in-Err.ensures in
    class_missing c.args.assets.now c.args.number (λ test.
    row_missing (λ (y : Asset). y.number) test c.args.assets.now c.args.number c.in-Err.field-0 c.requires is.bound (is.position (λ (y : Asset). y.number) (answers_always _ (λ a r. r ≡ a.0.now.number) _ (λ f a r g called. search rules))))
