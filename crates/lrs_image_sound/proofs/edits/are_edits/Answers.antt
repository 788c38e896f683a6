use Rattle.std.proofs.Common.{sym, ◌∙◌}
use Rattle.lrs_image_sound.proofs.Fitting.{edits_answer, edits_fail}
use Rattle.lrs_image_sound.proofs.edits.are_edits.Goals as goal

pub returns : goal.returns
returns c =
    edits_answer c.args.entered.now c.args.gone.now c.args.edits.now c.in_ok-keys.keys.items c.differ.result c.in_ok-keys.ensures c.differ.ensures
    (sym c.name_entered.ensures ∙ c.if-not-name_entered.false) (sym c.name_gone.ensures ∙ c.if-not-name_gone.false)
    c.if-edits-gt-MOST_EDITS.false

pub returns-then-not-name_gone : goal.returns-then-not-name_gone
returns-then-not-name_gone c =
    edits_fail c.args.entered.now c.args.gone.now c.args.edits.now (sym c.name_gone.ensures ∙ c.if-not-name_gone.true)
