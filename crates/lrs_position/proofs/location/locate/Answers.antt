use Rattle.lrs_position.specs.declared.expression.Expr.TheVariants.{Abs, Rel, Int}
use Rattle.lrs_position.specs.Translations.{alignment_of, referent_at}
use Rattle.lrs_position.proofs.Answering.{IsSound-from_route, place_of, found_from, on_route_of}
use Rattle.lrs_position.proofs.OnLinks.{den_of}
use Rattle.lrs_position.proofs.location.locate.Goals as goal

pub returns-in-Abs-clause-place : goal.returns-in-Abs-clause-place
returns-in-Abs-clause-place c = rw c.in-Abs.is (place_of (alignment_of c.args.route.now) (referent_at c.args.route.now.refs) (Abs c.in-Abs.measure) c.locate_measure.result (IsSound-from_route c.args.route.now) c.locate_measure.ensures.number.positive c.locate_measure.ensures.answer)

pub returns-in-Abs-clause-found : goal.returns-in-Abs-clause-found
returns-in-Abs-clause-found c = rw c.in-Abs.is (λ x l fine. found_from (alignment_of c.args.route.now) (referent_at c.args.route.now.refs) (Abs c.in-Abs.measure) c.locate_measure.result x (IsSound-from_route c.args.route.now) c.locate_measure.ensures.number.positive c.locate_measure.ensures.answer l fine)

pub returns-in-Rel-clause-place : goal.returns-in-Rel-clause-place
returns-in-Rel-clause-place c = rw c.in-Rel.is (place_of (alignment_of c.args.route.now) (referent_at c.args.route.now.refs) (Rel c.in-Rel.name c.in-Rel.distance) c.locate_distance.result (IsSound-from_route c.args.route.now) c.locate_distance.ensures.number.positive c.locate_distance.ensures.answer)

pub returns-in-Rel-clause-found : goal.returns-in-Rel-clause-found
returns-in-Rel-clause-found c = rw c.in-Rel.is (λ x l fine. found_from (alignment_of c.args.route.now) (referent_at c.args.route.now.refs) (Rel c.in-Rel.name c.in-Rel.distance) c.locate_distance.result x (IsSound-from_route c.args.route.now) c.locate_distance.ensures.number.positive c.locate_distance.ensures.answer l fine)

pub returns-in-Int-clause-place : goal.returns-in-Int-clause-place
returns-in-Int-clause-place c = rw c.in-Int.is (place_of (alignment_of c.args.route.now) (referent_at c.args.route.now.refs) (Int c.in-Int.proportion) c.locate_proportion.result (IsSound-from_route c.args.route.now) c.locate_proportion.ensures.number.positive c.locate_proportion.ensures.answer)

pub returns-in-Int-clause-found : goal.returns-in-Int-clause-found
returns-in-Int-clause-found c = rw c.in-Int.is (λ x l fine. found_from (alignment_of c.args.route.now) (referent_at c.args.route.now.refs) (Int c.in-Int.proportion) c.locate_proportion.result x (IsSound-from_route c.args.route.now) c.locate_proportion.ensures.number.positive c.locate_proportion.ensures.answer l fine)

pub returns-in-Abs-clause-on_route : goal.returns-in-Abs-clause-on_route
returns-in-Abs-clause-on_route c = on_route_of (alignment_of c.args.route.now) (referent_at c.args.route.now.refs) (Abs c.in-Abs.measure) c.locate_measure.result (IsSound-from_route c.args.route.now) c.locate_measure.ensures.number.positive c.locate_measure.ensures.answer

pub returns-in-Rel-clause-on_route : goal.returns-in-Rel-clause-on_route
returns-in-Rel-clause-on_route c = on_route_of (alignment_of c.args.route.now) (referent_at c.args.route.now.refs) (Rel c.in-Rel.name c.in-Rel.distance) c.locate_distance.result (IsSound-from_route c.args.route.now) c.locate_distance.ensures.number.positive c.locate_distance.ensures.answer

pub returns-in-Int-clause-on_route : goal.returns-in-Int-clause-on_route
returns-in-Int-clause-on_route c = on_route_of (alignment_of c.args.route.now) (referent_at c.args.route.now.refs) (Int c.in-Int.proportion) c.locate_proportion.result (IsSound-from_route c.args.route.now) c.locate_proportion.ensures.number.positive c.locate_proportion.ensures.answer

pub returns-in-Abs-clause-den : goal.returns-in-Abs-clause-den
returns-in-Abs-clause-den c = den_of (alignment_of c.args.route.now) (referent_at c.args.route.now.refs) (Abs c.in-Abs.measure) c.locate_measure.result (IsSound-from_route c.args.route.now) c.locate_measure.ensures.number.positive c.locate_measure.ensures.answer

pub returns-in-Rel-clause-den : goal.returns-in-Rel-clause-den
returns-in-Rel-clause-den c = den_of (alignment_of c.args.route.now) (referent_at c.args.route.now.refs) (Rel c.in-Rel.name c.in-Rel.distance) c.locate_distance.result (IsSound-from_route c.args.route.now) c.locate_distance.ensures.number.positive c.locate_distance.ensures.answer

pub returns-in-Int-clause-den : goal.returns-in-Int-clause-den
returns-in-Int-clause-den c = den_of (alignment_of c.args.route.now) (referent_at c.args.route.now.refs) (Int c.in-Int.proportion) c.locate_proportion.result (IsSound-from_route c.args.route.now) c.locate_proportion.ensures.number.positive c.locate_proportion.ensures.answer
