use Rattle.std.proofs.Common.{ap, sym, ◌∙◌, rules}
use Rattle.std.specs.Prelude.{◌&&◌, nat_eq}
use Rattle.std.proofs.lemmas.Fn.{always_returns_same}
use Rattle.lrs_measure.specs.Texts.{name_cmp}
use Rattle.lrs_machine.specs.Segments.{is_exclusive}
use Rattle.lrs_events.specs.declared.class.Class.{Class}
use Rattle.lrs_image_sound.proofs.Keyed.{place_found, place_missing}
use Rattle.lrs_image_sound.proofs.exclusive.exclusive_place.Goals as goal

pub returns-then-is_exclusive : goal.returns-then-is_exclusive
returns-then-is_exclusive c =
    let is = c.in-Ok.ensures in
    let name = c.args.name.now in
    let d = c.index-classes-at.result in
    λ k. place_found c.args.classes.now name c.in-Ok.at d c.requires.order is.bound (is.position (λ (y : Class). name_cmp y.name name) (always_returns_same _ _ _ (λ a r f called. search rules))) k
    ∙ ap (λ b. b && nat_eq c.in-Ok.at k) (ap (λ y. is_exclusive y.kind) (sym c.index-classes-at.is) ∙ sym c.is_exclusive.ensures ∙ c.if-is_exclusive.true)

pub returns-else-is_exclusive : goal.returns-else-is_exclusive
returns-else-is_exclusive c =
    let is = c.in-Ok.ensures in
    let name = c.args.name.now in
    let d = c.index-classes-at.result in
    λ k. place_found c.args.classes.now name c.in-Ok.at d c.requires.order is.bound (is.position (λ (y : Class). name_cmp y.name name) (always_returns_same _ _ _ (λ a r f called. search rules))) k
    ∙ ap (λ b. b && nat_eq c.in-Ok.at k) (ap (λ y. is_exclusive y.kind) (sym c.index-classes-at.is) ∙ sym c.is_exclusive.ensures ∙ c.if-is_exclusive.false)

pub returns-in-Err : goal.returns-in-Err
returns-in-Err c =
    let is = c.in-Err.ensures in
    let name = c.args.name.now in
    place_missing c.args.classes.now name c.in-Err.field-0 c.requires.order is.bound (is.position (λ (y : Class). name_cmp y.name name) (always_returns_same _ _ _ (λ a r f called. search rules)))
