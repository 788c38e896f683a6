use Rattle.std.proofs.Common.{◌≡◌, ◌∙◌, Result, refl, subst, sym}
use Rattle.std.specs.Prelude.{IfOk}
use Rattle.lrs_machine.specs.declared.image.Image.{Image}
use Rattle.lrs_machine.specs.declared.table.Table.{Table}
use Rattle.lrs_sheet.proofs.desk_copy.copy_desk.Goals as goal

pub returns-in-Ok-clause-image : goal.returns-in-Ok-clause-image
returns-in-Ok-clause-image g c =
    let kept : Result Image Table = c.in-Ok.copy.keeper.content in
    let same = sym (c.in-Ok.ensures.image kept refl) ∙ c.in-Ok.ensures.content kept refl ∙ c.in_ok-plain.ensures.content in
    let P : Result Image Table → Type 0 = λ r. IfOk r (λ i. i ≡ c.args.desk.now.image) in
    subst P (sym same) refl
