use Rattle.std.proofs.Common.{◌∙◌}
use Rattle.std.specs.Prelude.{nat_eq}
use Rattle.lrs_events.specs.declared.class.Asset.{Asset}
use Rattle.lrs_image.specs.OpenLists.{image_of}
use Rattle.lrs_image.proofs.Tables.{assets_in_order}
use Rattle.lrs_ordered.proofs.Keys.{finds_number}
use Rattle.lrs_report_lists.proofs.Chosen.{is_known}
use Rattle.lrs_report_lists.proofs.presence.knows_asset.Goals as goal

pub find-requires : goal.find-requires
find-requires c = record { order = assets_in_order (image_of c.args.kept.now) c.requires.sound }

pub returns : goal.returns
returns c = c.is_some.ensures ∙ is_known (λ (a : Asset). nat_eq a.number c.args.asset) c.args.kept.now.assets.rows c.find.result (c.find.ensures ∙ finds_number (λ (a : Asset). a.number) c.args.asset c.args.kept.now.assets.rows)
