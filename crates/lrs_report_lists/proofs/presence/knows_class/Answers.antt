use Rattle.std.proofs.Common.{◌∙◌}
use Rattle.lrs_measure.specs.Texts.{same_name}
use Rattle.lrs_events.specs.declared.class.Class.{Class}
use Rattle.lrs_image.specs.OpenLists.{image_of}
use Rattle.lrs_image.proofs.Tables.{classes_in_order}
use Rattle.lrs_ordered.proofs.Keys.{finds_name}
use Rattle.lrs_report_lists.proofs.Chosen.{is_known}
use Rattle.lrs_report_lists.proofs.presence.knows_class.Goals as goal

pub find-requires : goal.find-requires
find-requires c = record { order = classes_in_order (image_of c.args.kept.now) c.requires.sound }

pub returns : goal.returns
returns c = c.is_some.ensures ∙ is_known (λ (k : Class). same_name k.name c.args.name.now) c.args.kept.now.classes.rows c.find.result (c.find.ensures ∙ finds_name (λ (k : Class). k.name) c.args.name.now c.args.kept.now.classes.rows)
