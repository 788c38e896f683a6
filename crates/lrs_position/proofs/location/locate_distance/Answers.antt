use Rattle.std.proofs.Common.{◌≡◌, ◌*◌, ◌+ℤ◌, pos, to_z, of_z, arith, sym, ◌∙◌, ap}
use Rattle.std.proofs.lemmas.Grind.{common_steps}
use Rattle.std.specs.Int.{w128}
use Rattle.lrs_position.specs.Translations.{alignment_of, referent_at}
use Rattle.lrs_position.proofs.Answering.{distance_is, distance_given, distance_answer}
use Rattle.lrs_position.proofs.location.locate_distance.Goals as goal

-- what `on_route` is given
given : (c : goal.After-on_route) → to_z w128 (of_z w128 (to_z w128 (c.in-Some.at * c.den-den.result) +ℤ to_z w128 (of_z w128 c.num-num.result))) ≡ pos (c.in-Some.at * c.args.distance.den) +ℤ c.args.distance.num
given c =
    distance_given c.in-Some.at c.den-den.result c.num-num.result (omega arith) (omega arith) (rw c.num-num.ensures.value c.num-num.ensures.in_range.numerator)
    ∙ ap (λ d. pos (c.in-Some.at * d) +ℤ c.num-num.result) c.den-den.ensures
    ∙ ap (λ z. pos (c.in-Some.at * c.args.distance.den) +ℤ z) c.num-num.ensures.value

pub returns-else-den-gt-FINEST-clause-answer : goal.returns-else-den-gt-FINEST-clause-answer
returns-else-den-gt-FINEST-clause-answer c =
    distance_is (alignment_of c.args.route.now) (referent_at c.args.route.now.refs) c.args.name c.args.distance c.in-Some.at c.on_route.result (sym c.referent.ensures ∙ c.in-Some.is) (omega arith)
    (distance_answer _ _ c.in-Some.at c.args.distance.den _ c.args.distance.num _ c.on_route.result c.length.ensures.length c.den-den.ensures (given c) c.on_route.ensures)

pub returns-in-None-clause-answer : goal.returns-in-None-clause-answer
returns-in-None-clause-answer c = grind (arith, common_steps)

pub returns-in-None-clause-number : goal.returns-in-None-clause-number
returns-in-None-clause-number c = grind (arith, common_steps)

pub returns-then-den-gt-FINEST-clause-answer : goal.returns-then-den-gt-FINEST-clause-answer
returns-then-den-gt-FINEST-clause-answer c = grind (arith, common_steps)

pub returns-then-den-gt-FINEST-clause-number : goal.returns-then-den-gt-FINEST-clause-number
returns-then-den-gt-FINEST-clause-number c = grind (arith, common_steps)

pub returns-else-den-gt-FINEST-clause-number : goal.returns-else-den-gt-FINEST-clause-number
returns-else-den-gt-FINEST-clause-number c = grind (arith, common_steps)
