use Rattle.std.proofs.Common.{◌≡◌, ◌≤◌, to_z, of_z, unsigned_abs, arith, rules, ◌∙◌}
use Rattle.std.specs.Int.{w64, w128}
use Rattle.std.proofs.lemmas.Int.{to_z-of_z, ints}
use Rattle.lrs_position.proofs.Stated.{whole_is, whole_in_range}
use Rattle.lrs_position.proofs.texts.whole.Goals as goal

-- what `new` is given is the number
given : (c : goal.After-new) → to_z w128 (of_z w128 c.from.result) ≡ c.args.n
given c = to_z-of_z w128 c.from.result (search rules) ∙ c.from.ensures ∙ to_z-of_z w64 c.args.n c.ranges.n

pub returns : goal.returns
returns c =
    let bound : unsigned_abs c.args.n ≤ 9_223_372_036_854_775_808 = omega (arith, ints) in
    whole_is c.new.result c.args.n (c.new.ensures.in_range.1 (rw (given c) (whole_in_range c.args.n bound))) (rw (given c) at c.new.ensures.value) c.new.ensures.lowest
