use Rattle.std.proofs.Common.{sym, ◌∙◌}
use Rattle.lrs_measure.specs.Texts.{same_name}
use Rattle.lrs_events.specs.declared.class.Asset.{Asset}
use Rattle.lrs_image_sound.proofs.lookups.is_of_class.Goals as goal

pub returns-in-Some : goal.returns-in-Some
returns-in-Some c = c.eq.ensures ∙ sym (c.in-Some.ensures (λ (a : Asset). same_name a.class c.args.class))

pub returns-in-None : goal.returns-in-None
returns-in-None c = sym (c.in-None.ensures (λ (a : Asset). same_name a.class c.args.class))
