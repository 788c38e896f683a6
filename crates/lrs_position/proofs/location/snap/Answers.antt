use Rattle.std.proofs.Common.{◌≡◌, ◌+◌, ◌*◌, ◌/◌, ◌≤◌, pos, unsigned_abs, to_z, of_z, rules, ap, ◌∙◌}
use Rattle.std.specs.Int.{w128}
use Rattle.std.proofs.lemmas.Int.{to_z-of_z}
use Rattle.lrs_position.proofs.Whole.{snap_is, snap_limit}
use Rattle.lrs_position.proofs.location.snap.Goals as goal

-- the nearest number is a quotient of naturals
nearest_is : (c : goal.After-nearest) → to_z w128 (of_z w128 c.nearest.result) ≡ pos ((2 * unsigned_abs c.args.chainage.num + c.args.chainage.den) / (2 * c.args.chainage.den))
nearest_is c = to_z-of_z w128 c.nearest.result (search rules) ∙ snap_is c.args.chainage c.nearest.result c.requires.from c.nearest.ensures

pub overflow_cast-result : goal.overflow_cast-result
overflow_cast-result c =
    let limit : (2 * unsigned_abs c.args.chainage.num + c.args.chainage.den) / (2 * c.args.chainage.den) ≤ 10_000_000_000 = snap_limit c.args.chainage c.nearest.result 10_000_000_000 c.requires.from c.requires.to c.nearest.ensures in
    rw (nearest_is c) (search rules)

pub returns : goal.returns
returns c = ap unsigned_abs (nearest_is c)
