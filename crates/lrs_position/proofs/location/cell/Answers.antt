use Rattle.std.proofs.Common.{◌≡◌, ◌-◌, ◌/◌, ◌≤◌, min, pos, unsigned_abs, to_z, of_z, rules, ap, ◌∙◌}
use Rattle.std.specs.Int.{w128}
use Rattle.std.proofs.lemmas.Int.{to_z-of_z}
use Rattle.lrs_position.proofs.Whole.{cell_is, cell_limit}
use Rattle.lrs_position.proofs.location.cell.Goals as goal

-- the floor is a quotient of naturals
floor_is : (c : goal.After-floor) → to_z w128 (of_z w128 c.floor.result) ≡ pos (unsigned_abs c.args.chainage.num / c.args.chainage.den)
floor_is c = to_z-of_z w128 c.floor.result (search rules) ∙ cell_is c.args.length c.args.chainage c.floor.result c.requires.from c.floor.ensures

pub overflow_cast-floor : goal.overflow_cast-floor
overflow_cast-floor c =
    let limit : unsigned_abs c.args.chainage.num / c.args.chainage.den ≤ c.args.length = cell_limit c.args.chainage c.floor.result c.args.length c.requires.from c.requires.to c.floor.ensures in
    rw (floor_is c) (search rules)

pub returns : goal.returns
returns c = c.min.ensures ∙ ap (λ z. min (unsigned_abs z) (c.args.length - 1)) (floor_is c.before)
