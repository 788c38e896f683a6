use Rattle.std.proofs.Common.{◌≡◌, ◌+◌, ◌*◌, subst, arith, ℤ, pos, to_z, of_z}
use Rattle.std.specs.Int.{w128}
use Rattle.std.proofs.lemmas.Int.{ints}
use Rattle.lrs_measure.specs.Fraction.{IsQuotient}
use Rattle.lrs_report_answers.proofs.Place.Halves.{middle_is}
use Rattle.lrs_report_answers.proofs.places.ground.middle_of.Goals.{After-new}
use Rattle.lrs_report_answers.proofs.places.ground.middle_of.Goals as goal

-- what is given is twice the millimetre, and one more
given : (c : After-new) → to_z w128 (of_z w128 c.from-2.result) ≡ pos (2 * c.args.mm + 1)
given c = let number = c.from-2.ensures in let mm = c.from.ensures in let small = c.ranges.mm.fits in omega (arith, ints, number, mm, small)

pub returns : goal.returns
returns c = middle_is c.args.mm c.in-Some.distance c.in-Some.ensures.lowest (subst (λ (z : ℤ). IsQuotient c.in-Some.distance z 2) (given c.before) c.in-Some.ensures.value)
