use denote.Bor.{Bor}
use Rattle.std.specs.Option.{option_map}
use Rattle.lrs_machine.specs.declared.image.RouteRow.{RouteRow}
use Rattle.lrs_report_answers.proofs.Place.Names.{none_there, route_there}
use Rattle.lrs_report_answers.proofs.places.ground.route_over.Goals as goal

pub returns-in-Some : goal.returns-in-Some
returns-in-Some c =
    route_there c.args.inventory.now (c.args.link, c.args.mm) c.in-Some.name (option_map (λ (row : Bor RouteRow). row.now) c.route.result) c.prove_sound.ensures c.in-Some.ensures c.route.ensures.row

pub returns-in-None : goal.returns-in-None
returns-in-None c = none_there c.args.inventory.now (c.args.link, c.args.mm) c.in-None.ensures
