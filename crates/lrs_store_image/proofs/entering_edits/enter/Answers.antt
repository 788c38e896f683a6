use Rattle.std.proofs.Common.{[], ◌∙◌, rules}
use Rattle.lrs_events.specs.declared.class.Asset.{Asset}
use Rattle.lrs_store_image.proofs.Entered.{entered_at, entered_none}
use Rattle.lrs_store_image.proofs.entering_edits.enter.Goals as goal

pub returns-in-Some : goal.returns-in-Some
returns-in-Some c =
    let nothing : Asset = record { number = 0; class = []; value = []; lateral = 0; entered_by = 0 } in
    c.set_edit.ensures ∙ entered_at c.args.part.now c.args.assets.now.items c.in-Some.at nothing c.requires.order (search rules) (search rules)

pub returns-in-None : goal.returns-in-None
returns-in-None c = entered_none c.args.part.now c.args.assets.now.items (search rules)
