use Rattle.std.proofs.Common.{arith, sym, ◌∙◌, length}
use Rattle.lrs_position.specs.Translations.{alignment_of, referent_at}
use Rattle.lrs_position.proofs.Answering.{IsSound-from_route}
use Rattle.lrs_position.proofs.Expressing.{difference_bounds, difference_fits, difference_given, difference_in_range, distance_ok}
use Rattle.lrs_position.proofs.translation.express_distance.Goals as goal

pub overflow_sub-n : goal.overflow_sub-n
overflow_sub-n c =
    let b = difference_bounds c.in-Ok.n (length c.args.route.now.course) c.in-Some.at c.den-den.result (rw c.den-den.ensures c.in-Ok.ensures.ok.2) (IsSound-from_route c.args.route.now).longest (omega arith) (rw c.den-den.ensures c.in-Ok.ensures.ok.3) in
    difference_fits _ _ b.0 b.1

pub returns-in-Some-new : goal.returns-in-Some-new
returns-in-Some-new c =
    let b = difference_bounds c.in-Ok.n (length c.args.route.now.course) c.in-Some.at c.den-den.result (rw c.den-den.ensures c.in-Ok.ensures.ok.2) (IsSound-from_route c.args.route.now).longest (omega arith) (rw c.den-den.ensures c.in-Ok.ensures.ok.3) in
    distance_ok (alignment_of c.args.route.now) (referent_at c.args.route.now.refs) c.args.chainage c.in-Some-new.distance c.args.name c.in-Ok.n c.in-Some.at c.den-den.result _ c.in-Ok.ensures.lowest c.in-Some-new.ensures.lowest c.in-Ok.ensures.ok.0 c.in-Ok.ensures.ok.1 c.in-Ok.ensures.ok.2 (sym c.referent.ensures ∙ c.in-Some.is) c.den-den.ensures (difference_given _ _ b.0 b.1) c.in-Some-new.ensures.value

pub returns-in-None-new : goal.returns-in-None-new
returns-in-None-new c =
    let b = difference_bounds c.in-Ok.n (length c.args.route.now.course) c.in-Some.at c.den-den.result (rw c.den-den.ensures c.in-Ok.ensures.ok.2) (IsSound-from_route c.args.route.now).longest (omega arith) (rw c.den-den.ensures c.in-Ok.ensures.ok.3) in
    absurd (cc (c.in-None-new.ensures.in_range.1 (difference_in_range _ _ _ (rw c.den-den.ensures c.in-Ok.ensures.lowest.positive) (rw c.den-den.ensures c.in-Ok.ensures.ok.3) b.0 b.1)))
