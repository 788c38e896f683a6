use Rattle.std.proofs.Common.{sym, rules}
use Rattle.std.proofs.lemmas.Fn.{always_returns_same}
use Rattle.lrs_measure.specs.Texts.{name_cmp}
use Rattle.lrs_events.specs.declared.class.Class.{Class}
use Rattle.lrs_image_sound.proofs.Keyed.{class_at, class_nowhere}
use Rattle.lrs_image_sound.proofs.lookups.knows_class.Goals as goal

pub returns-in-Ok : goal.returns-in-Ok
returns-in-Ok c =
    let is = c.in-Ok.ensures in
    let name = c.args.name in
    sym (class_at c.args.classes.now name c.in-Ok.field-0 is.bound (is.position (λ (y : Class). name_cmp y.name name) (always_returns_same _ _ _ (λ a r f called. search rules))))

pub returns-in-Err : goal.returns-in-Err
returns-in-Err c =
    let is = c.in-Err.ensures in
    let name = c.args.name in
    sym (class_nowhere c.args.classes.now name c.in-Err.field-0 c.requires.order is.bound (is.position (λ (y : Class). name_cmp y.name name) (always_returns_same _ _ _ (λ a r f called. search rules))))
