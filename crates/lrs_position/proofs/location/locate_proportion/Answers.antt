use Rattle.std.proofs.Common.{arith, rules}
use Rattle.std.proofs.lemmas.Grind.{common_steps}
use Rattle.lrs_position.specs.Translations.{alignment_of, referent_at}
use Rattle.lrs_position.proofs.Answering.{IsSound-from_route, natural_read, product_ok, product_in_range}
use Rattle.lrs_position.proofs.location.locate_proportion.Goals as goal

pub returns-in-Some-clause-answer : goal.returns-in-Some-clause-answer
returns-in-Some-clause-answer c =
    product_ok (alignment_of c.args.route.now) (referent_at c.args.route.now.refs) c.args.proportion c.in-Some.chainage _ c.length-length.result c.den-den.result
    (IsSound-from_route c.args.route.now) c.num-num.ensures.lowest c.length-length.ensures.length c.den-den.ensures (omega arith)
    (natural_read c.args.proportion.num c.num-num.result c.num-num.ensures.value (search rules) c.if-num-lt0.false) c.if-num-den.false c.in-Some.ensures.value c.in-Some.ensures.lowest

pub returns-in-None-clause-answer : goal.returns-in-None-clause-answer
returns-in-None-clause-answer c =
    absurd (cc (c.in-None.ensures.in_range.1 (product_in_range _ c.length-length.result c.den-den.result (rw c.den-den.ensures c.num-num.ensures.in_range.positive) c.length-length.ensures.longest (omega arith) c.if-num-den.false)))

pub returns-then-num-lt0-clause-answer : goal.returns-then-num-lt0-clause-answer
returns-then-num-lt0-clause-answer c = grind (arith, common_steps)

pub returns-then-num-lt0-clause-number : goal.returns-then-num-lt0-clause-number
returns-then-num-lt0-clause-number c = grind (arith, common_steps)

pub returns-in-Some-clause-number : goal.returns-in-Some-clause-number
returns-in-Some-clause-number c = grind (arith, common_steps)

pub returns-in-None-clause-number : goal.returns-in-None-clause-number
returns-in-None-clause-number c = grind (arith, common_steps)
