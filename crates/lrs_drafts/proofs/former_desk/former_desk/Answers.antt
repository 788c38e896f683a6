use Rattle.std.proofs.Common.{◌∙◌, subst}
use Rattle.lrs_machine.specs.Lines.{Text}
use Rattle.lrs_sheet.specs.MadeLogs.{IsMadeBy}
use Rattle.lrs_drafts.proofs.former_desk.former_desk.Goals as goal

pub returns : goal.returns
returns c = subst (λ (text : Text). IsMadeBy text c.run_at.new.desk.image) (c.as_slice.ensures.value ∙ c.in_ok-text.ensures) c.run_at.ensures
