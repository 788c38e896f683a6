use Rattle.std.proofs.Common.{arith}
use Rattle.std.proofs.lemmas.Grind.{common_steps}
use Rattle.lrs_position.specs.Translations.{alignment_of, referent_at}
use Rattle.lrs_position.proofs.Answering.{IsSound-from_route}
use Rattle.lrs_position.proofs.Expressing.{proportion_found}
use Rattle.lrs_position.proofs.translation.express_proportion.Goals as goal

pub returns-in-Some : goal.returns-in-Some
returns-in-Some c =
    proportion_found (alignment_of c.args.route.now) (referent_at c.args.route.now.refs) c.args.chainage c.in-Some.proportion c.in-Ok.n c.den.result c.length.result (IsSound-from_route c.args.route.now) c.in-Ok.ensures.lowest c.in-Some.ensures.lowest c.in-Ok.ensures.ok.0 c.in-Ok.ensures.ok.1 c.in-Ok.ensures.ok.2 c.in-Ok.ensures.ok.3 c.den.ensures c.length.ensures.length c.in-Some.ensures.value

pub returns-in-Err : goal.returns-in-Err
returns-in-Err c = grind (arith, common_steps)

pub returns-in-None : goal.returns-in-None
returns-in-None c = grind (arith, common_steps)
