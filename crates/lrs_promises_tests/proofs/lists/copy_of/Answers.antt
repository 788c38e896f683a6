use Rattle.std.proofs.Common.{subst, sym}
use Rattle.lrs_machine.specs.declared.image.Image.{Image}
use Rattle.lrs_machine.specs.Sound.{IsSound}
use Rattle.lrs_promises_tests.proofs.lists.copy_of.Goals as goal

pub show_counted-requires : goal.show_counted-requires
show_counted-requires g c = subst (λ (i : Image). IsSound i) (sym c.in-Ok.ensures.image) c.in-Ok.ensures.sound
