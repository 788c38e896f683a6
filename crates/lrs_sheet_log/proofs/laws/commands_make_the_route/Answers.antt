use Rattle.lrs_sheet_log.proofs.MadeRoutes.{commands_make_the_route}
use Rattle.lrs_sheet_log.proofs.laws.commands_make_the_route.Goals as goal

pub returns : goal.returns
returns c = commands_make_the_route
