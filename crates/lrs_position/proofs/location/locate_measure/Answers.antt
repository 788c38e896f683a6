use Rattle.std.proofs.Common.{arith}
use Rattle.lrs_position.specs.Translations.{alignment_of, referent_at}
use Rattle.lrs_position.proofs.Answering.{IsSound-from_route, measure_ok, measure_off}
use Rattle.lrs_position.proofs.location.locate_measure.Goals as goal

pub returns-in-Some-clause-answer : goal.returns-in-Some-clause-answer
returns-in-Some-clause-answer c =
    measure_ok (alignment_of c.args.route.now) (referent_at c.args.route.now.refs) c.args.measure c.in-Some.chainage (IsSound-from_route c.args.route.now) c.num-num.ensures.lowest (omega arith) c.in-Some.ensures.value c.in-Some.ensures.lowest

pub returns-in-None-clause-answer : goal.returns-in-None-clause-answer
returns-in-None-clause-answer c =
    measure_off (alignment_of c.args.route.now) (referent_at c.args.route.now.refs) c.args.measure (IsSound-from_route c.args.route.now) c.num-num.ensures.lowest (omega arith) (λ h. absurd (cc ((c.in-None.ensures.some (rw (c.length-length.ensures.end, ← c.length-length.ensures.length) c.length-length.ensures.longest)).1 h)))
