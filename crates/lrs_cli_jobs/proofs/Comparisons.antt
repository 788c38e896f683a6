-- What is told of two inventories.
use Rattle.std.proofs.Common.{◌≡◌, Option, Result, Ok, Err, refl, ap, inl, inr, subst, sym}
use Rattle.std.specs.Prelude.{IfErr, IfOk}
use Rattle.lrs_machine.specs.Lines.{Text}
use Rattle.lrs_machine.specs.declared.image.Image.{Image}
use Rattle.lrs_cli_tasks.specs.declared.endings.Ending.{Ending}
use Rattle.lrs_cli_tasks.specs.declared.fault.ProgramFault.{ProgramFault}
use Rattle.lrs_cli_tasks.specs.declared.fault.ProgramFault.TheVariants.{Write}
use Rattle.lrs_cli_sheets.specs.Differences.{EndsDifference}
use Rattle.lrs_cli_jobs.specs.Jobs.{EndsCompared, IsExpected, Printed, identity_at, printed}

-- the difference of two was told, or not all of it was written
pub told : {W : Type 0} (contents : W → Option Text) (IsOne IsOther : Image → Type 0) (expected old : Option Text) (before after : Image) (result : Result (W × Ending) ProgramFault) → IsOne before → IsOther after → IsExpected expected (identity_at before) → IfOk result (λ done. EndsDifference before after old (contents done.0) done.1) → IfErr result (λ e. e ≡ Write) → EndsCompared IsOne IsOther expected old (printed contents result)
told contents IsOne IsOther expected old before after (Ok done) one other is ended failed = inl (before, after, one, other, is, contents done.0, done.1, refl, ended)
told contents IsOne IsOther expected old before after (Err fault) one other is ended failed = inr (inr (ap Err failed))

-- of a first inventory is said what is so of it
pub of_first : (IsOne IsOther : Image → Type 0) (expected old : Option Text) (i : Image) (given : Printed) → IsOne i → EndsCompared (λ j. j ≡ i) IsOther expected old given → EndsCompared IsOne IsOther expected old given
of_first IsOne IsOther expected old i given one (inl (before, after, same, other, is, new, ending, gives, ended)) = inl (before, after, subst IsOne (sym same) one, other, is, new, ending, gives, ended)
of_first IsOne IsOther expected old i given one (inr fails) = inr fails
