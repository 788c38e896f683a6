use Rattle.std.proofs.Common.{refl, sym, subst, arith}
use Rattle.lrs_machine.specs.declared.image.Image.{Image}
use Rattle.lrs_machine.specs.Sound.{IsSound, first_unsound}
use Rattle.lrs_desk.proofs.plain.Plain.empty.Goals as goal

pub invariant_of-result : goal.invariant_of-result
unfolding first_unsound
invariant_of-result c = record {
  within = omega (arith);
  content = record { sound = subst (λ (i : Image). IsSound i) (sym c.empty.ensures) refl; can = tt };
}
