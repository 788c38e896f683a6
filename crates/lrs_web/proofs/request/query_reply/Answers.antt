use Rattle.lrs_web.proofs.Asking.{given_way}
use Rattle.lrs_web.proofs.request.query_reply.Goals as goal

pub returns-in-Ok-clause-answered : goal.returns-in-Ok-clause-answered
returns-in-Ok-clause-answered g c = given_way c.args.desk.now.image c.args.format c.args.resource c.args.argument.now _ _ c.in-Ok.ensures c.limited.ensures
