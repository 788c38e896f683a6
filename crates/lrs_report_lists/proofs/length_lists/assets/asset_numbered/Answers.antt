use Rattle.std.proofs.Common.{◌∙◌}
use Rattle.lrs_events.specs.declared.class.Asset.{Asset}
use Rattle.lrs_ordered.proofs.Keys.{finds_number}
use Rattle.lrs_report_lists.proofs.length_lists.assets.asset_numbered.Goals as goal

pub returns : goal.returns
returns c = c.find.ensures ∙ finds_number (λ (a : Asset). a.number) c.args.number c.args.assets.now.rows
