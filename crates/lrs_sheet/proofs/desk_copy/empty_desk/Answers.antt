use Rattle.std.proofs.Common.{◌≡◌, ◌∙◌, ap, Result, refl, subst, sym}
use Rattle.std.specs.Prelude.{IfOk}
use Rattle.lrs_machine.specs.declared.image.Image.{Image}
use Rattle.lrs_machine.specs.declared.table.Table.{Table}
use Rattle.lrs_machine.specs.Image.{nothing}
use Rattle.lrs_desk.specs.PlainKeeper.{PlainView}
use Rattle.lrs_sheet.proofs.desk_copy.empty_desk.Goals as goal

pub returns-in-Ok-clause-image : goal.returns-in-Ok-clause-image
returns-in-Ok-clause-image c =
    let kept : Result Image Table = c.in-Ok.desk.keeper.content in
    let same = sym (c.in-Ok.ensures.content kept refl) ∙ c.in-Ok.ensures.image kept refl in
    let P : Result Image Table → Type 0 = λ r. IfOk r (λ i. i ≡ nothing) in
    subst P same (subst P (sym (ap (λ (v : PlainView). v.content) c.empty-plain.ensures)) refl)
