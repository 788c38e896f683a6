use Rattle.std.proofs.Common.{arith, rules}
use Rattle.std.proofs.lemmas.Grind.{common_steps}
use Rattle.lrs_position.proofs.Entries.{is_route_position}
use Rattle.lrs_position.proofs.Returning.{comes_back}
use Rattle.lrs_position.proofs.link_position.link_to_route.Goals as goal

pub across-requires-clause-behind : goal.across-requires-clause-behind
across-requires-clause-behind c = rw c.from.ensures c.in-Ok.ensures.behind

pub across-requires-clause-inside : goal.across-requires-clause-inside
across-requires-clause-inside c = rw c.from.ensures c.in-Ok.ensures.inside

pub returns-in-Some-across-clause-answer : goal.returns-in-Some-across-clause-answer
returns-in-Some-across-clause-answer c =
    is_route_position c.args.routes.now c.args.link c.args.position c.in-Some-across.chainage c.in-Ok.mm c.in-Some.at c.in-Some.route.now c.ground-forward.result c.in-Ok.ensures.ok.0 c.in-Ok.ensures.ok.1
    c.in-Some.ensures.some.0 c.in-Some.ensures.some.1 c.ground-forward.ensures (rw c.from.ensures at c.in-Some-across.ensures.0) c.in-Some-across.ensures.1

pub returns-in-Some-across-clause-back : goal.returns-in-Some-across-clause-back
returns-in-Some-across-clause-back c = comes_back c.args.routes.now c.args.link c.args.position _ (returns-in-Some-across-clause-answer c)

pub returns-in-None-clause-answer : goal.returns-in-None-clause-answer
returns-in-None-clause-answer c = search rules

pub returns-in-None-clause-back : goal.returns-in-None-clause-back
returns-in-None-clause-back c = comes_back c.args.routes.now c.args.link c.args.position _ (returns-in-None-clause-answer c)

pub returns-in-Err-clause-answer : goal.returns-in-Err-clause-answer
returns-in-Err-clause-answer c = search rules

pub returns-in-Err-clause-back : goal.returns-in-Err-clause-back
returns-in-Err-clause-back c = comes_back c.args.routes.now c.args.link c.args.position _ (returns-in-Err-clause-answer c)

pub returns-in-None-across-clause-answer : goal.returns-in-None-across-clause-answer
returns-in-None-across-clause-answer c = grind (arith, common_steps)

pub returns-in-None-across-clause-back : goal.returns-in-None-across-clause-back
returns-in-None-across-clause-back c = grind (arith, common_steps)
