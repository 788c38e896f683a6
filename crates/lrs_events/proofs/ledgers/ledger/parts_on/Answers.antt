use Rattle.std.proofs.Common.{ap, length, arith}
use Rattle.std.specs.Prelude.{nat_lt}
use Rattle.std.proofs.lemmas.Bool.{or_parts, ltb-false}
use Rattle.lrs_element.specs.Course.{piece_count}
use Rattle.lrs_measure.specs.Limits.{most_pieces, longest_route}
use Rattle.lrs_events.proofs.ledgers.ledger.parts_on.Goals as goal

pub starts_of-requires-clause-few : goal.starts_of-requires-clause-few
starts_of-requires-clause-few c =
    let few = (or_parts (nat_lt most_pieces (piece_count c.args.course.now)) (nat_lt longest_route (length c.args.course.now)) c.pieces-pieces.ensures.limits).0 in
    let count = ltb-false most_pieces (piece_count c.args.course.now) few in
    let same = ap piece_count c.pieces-pieces.ensures.course in
    let all = c.pieces-pieces.ensures.fewest.fewest in
    omega (arith, count, same, all)
