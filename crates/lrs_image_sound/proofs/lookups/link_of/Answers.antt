use Rattle.std.proofs.Common.{◌≡◌, ap, sym, ◌∙◌, rules}
use Rattle.std.proofs.lemmas.List.Sorted.{answers_always}
use Rattle.lrs_element.specs.declared.link.Link.{Link}
use Rattle.lrs_image_sound.proofs.Keyed.{row_found, row_missing}
use Rattle.lrs_image_sound.proofs.lookups.link_of.Goals as goal

pub returns-in-Ok : goal.returns-in-Ok
returns-in-Ok c = λ test.
    let is = c.in-Ok.ensures in
    row_found (λ (y : Link). y.number) test c.args.links.now c.args.number c.in-Ok.at c.index-links-at.result c.requires.order is.bound (is.position (λ (y : Link). y.number) (answers_always _ (λ a r. r ≡ a.0.now.number) _ (λ f a r g called. search rules)))
    ∙ ap test (sym c.index-links-at.is)

pub returns-in-Err : goal.returns-in-Err
returns-in-Err c = λ test.
    let is = c.in-Err.ensures in
    row_missing (λ (y : Link). y.number) test c.args.links.now c.args.number c.in-Err.field-0 c.requires.order is.bound (is.position (λ (y : Link). y.number) (answers_always _ (λ a r. r ≡ a.0.now.number) _ (λ f a r g called. search rules)))
