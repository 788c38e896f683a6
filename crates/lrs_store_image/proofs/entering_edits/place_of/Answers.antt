use Rattle.std.proofs.Common.{◌≡◌, true, ◌∙◌, sym, rules}
use Rattle.std.proofs.lemmas.List.Sorted.{answers_always}
use Rattle.lrs_events.specs.declared.class.Asset.{Asset}
use Rattle.lrs_image_sound.proofs.Keyed.{row_missing, row_known, same_number}
use Rattle.lrs_store_image.proofs.entering_edits.place_of.Goals as goal

pub returns-in-Ok : goal.returns-in-Ok
returns-in-Ok c =
    let is = c.in-Ok.ensures in
    (is.bound, λ d. same_number _ _ (is.position (λ (y : Asset). y.number) (answers_always _ (λ a r. r ≡ a.0.now.number) _ (λ f a r g called. search rules)) d))

pub returns-in-Err : goal.returns-in-Err
returns-in-Err c =
    let is = c.in-Err.ensures in
    sym (row_known (λ (y : Asset). y.number) c.args.assets.now c.args.number)
    ∙ row_missing (λ (y : Asset). y.number) (λ y. true) c.args.assets.now c.args.number c.in-Err.field-0 c.requires.order is.bound (is.position (λ (y : Asset). y.number) (answers_always _ (λ a r. r ≡ a.0.now.number) _ (λ f a r g called. search rules)))
