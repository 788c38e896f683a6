use Rattle.std.proofs.Common.{Ok}
use Rattle.lrs_position.specs.Translations.{alignment_of, referent_at}
use Rattle.lrs_position.proofs.Answering.{IsSound-from_route}
use Rattle.lrs_position.proofs.RoundTrips.{RoundTrip-from_translates}
use Rattle.lrs_position.proofs.translation.translate.Goals as goal

pub returns-in-Ok-clause-round_trip : goal.returns-in-Ok-clause-round_trip
returns-in-Ok-clause-round_trip c =
    RoundTrip-from_translates (alignment_of c.args.route.now) (referent_at c.args.route.now.refs) c.args.expression c.args.target c.express.result (IsSound-from_route c.args.route.now) c.in-Ok.ensures.number (Ok c.in-Ok.chainage, c.in-Ok.ensures.answer, c.express.ensures)
