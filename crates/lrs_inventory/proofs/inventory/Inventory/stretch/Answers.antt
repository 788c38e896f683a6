use Rattle.std.proofs.lemmas.Result.{err_from_is_err_and}
use Rattle.lrs_inventory.specs.Prelude.{alignment_of, state_of}
use Rattle.lrs_inventory.proofs.Located.{point_stops, from_stops, to_stops}
use Rattle.lrs_inventory.proofs.inventory.Inventory.stretch.Goals as goal

pub returns-in_err-at-in-None-clause-answer : goal.returns-in_err-at-in-None-clause-answer
returns-in_err-at-in-None-clause-answer c =
    let e = err_from_is_err_and c.from_residual.result c.from_residual.ensures.1 in
    rw (e.1, e.2) (point_stops (state_of c.args.self.now) (alignment_of c.args.route_row.now.route) c.args.location c.from.result c.from.ensures.from c.in_err-at-in-None.field-0.0 c.in-None.ensures.to c.in_err-at-in-None.ensures.answer)

pub returns-in_err-from-in-Some-clause-answer : goal.returns-in_err-from-in-Some-clause-answer
returns-in_err-from-in-Some-clause-answer c =
    let e = err_from_is_err_and c.from_residual-in_err-from-in-Some.result c.from_residual-in_err-from-in-Some.ensures.1 in
    rw (e.1, e.2) (from_stops (state_of c.args.self.now) (alignment_of c.args.route_row.now.route) c.args.location c.from-in-Some.result c.from-in-Some.ensures.from
    c.in_err-from-in-Some.field-0.0 c.in-Some.end c.in-Some.ensures.to c.in_err-from-in-Some.ensures.answer)

pub returns-in_err-to-in-Some-clause-answer : goal.returns-in_err-to-in-Some-clause-answer
returns-in_err-to-in-Some-clause-answer c =
    let e = err_from_is_err_and c.from_residual-in_err-to-in-Some.result c.from_residual-in_err-to-in-Some.ensures.1 in
    rw (e.1, e.2) (to_stops (state_of c.args.self.now) (alignment_of c.args.route_row.now.route) c.args.location c.from-in-Some.result c.from-in-Some.ensures.from
    c.in_err-to-in-Some.field-0.0 c.in-Some.end c.in-Some.ensures.to c.in_ok-from-in-Some.from c.in_ok-from-in-Some.ensures.answer c.in_err-to-in-Some.ensures.answer)
