use Rattle.std.proofs.Common.{◌∙◌}
use Rattle.lrs_machine.specs.declared.image.RouteRow.{RouteRow}
use Rattle.lrs_image.specs.Change.{is_named}
use Rattle.lrs_image.specs.OpenLists.{image_of}
use Rattle.lrs_image.proofs.Tables.{routes_in_order}
use Rattle.lrs_ordered.proofs.Keys.{finds_name}
use Rattle.lrs_report_lists.proofs.Chosen.{is_known}
use Rattle.lrs_report_lists.proofs.presence.knows_route.Goals as goal

pub find-requires : goal.find-requires
find-requires c = record { order = routes_in_order (image_of c.args.kept.now) c.requires.sound }

pub returns : goal.returns
returns c = c.is_some.ensures ∙ is_known (is_named c.args.name.now) c.args.kept.now.routes.rows c.find.result (c.find.ensures ∙ finds_name (λ (e : RouteRow). e.route.name) c.args.name.now c.args.kept.now.routes.rows)
