use Rattle.std.proofs.Common.{arith}
use Rattle.std.proofs.lemmas.Grind.{common_steps}
use Rattle.lrs_image.specs.OpenLists.{image_of}
use Rattle.lrs_image.proofs.Tables.{assets_in_order, classes_in_order}
use Rattle.lrs_report_answers.proofs.route_diagram.draw_on.Goals as goal

pub chosen_classes-requires : goal.chosen_classes-requires
chosen_classes-requires c = record { order = classes_in_order (image_of c.args.kept.now) c.requires.sound }

pub draw-requires-clause-order : goal.draw-requires-clause-order
draw-requires-clause-order c = assets_in_order (image_of c.args.kept.now) c.requires.sound

pub returns : goal.returns
returns c = grind (arith, common_steps)
