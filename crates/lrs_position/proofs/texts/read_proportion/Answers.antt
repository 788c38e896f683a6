use Rattle.std.proofs.Common.{◌≡◌, ◌<◌, unsigned_abs, arith, rules, refl, ap, ◌∙◌}
use Rattle.std.proofs.lemmas.Grind.{common_steps}
use Rattle.std.specs.Int.{w128}
use Rattle.std.proofs.lemmas.Int.{to_z-of_z}
use Rattle.lrs_position.proofs.Stated.{same_proportion, no_proportion}
use Rattle.lrs_position.proofs.texts.read_proportion.Goals as goal

pub returns-then-unsigned_abs-den-clause-found : goal.returns-then-unsigned_abs-den-clause-found
returns-then-unsigned_abs-den-clause-found c =
    let size : c.unsigned_abs.result ≡ unsigned_abs c.in_ok-proportion.proportion.num = c.unsigned_abs.ensures.value ∙ ap unsigned_abs (to_z-of_z w128 c.num.result (search rules) ∙ c.num.ensures.value) in
    let above : c.in_ok-proportion.proportion.den < unsigned_abs c.in_ok-proportion.proportion.num = omega (arith, size, c.den.ensures, c.if-unsigned_abs-den.true) in
    λ expression s. absurd (no_proportion c.args.bytes.now c.in_ok-proportion.proportion expression c.in_ok-proportion.ensures.value above s)

pub returns-clause-found : goal.returns-clause-found
returns-clause-found c =
    λ expression s. same_proportion c.args.bytes.now c.in_ok-proportion.proportion expression (c.in_ok-proportion.ensures.fraction.0 refl) c.in_ok-proportion.ensures.value c.in_ok-proportion.ensures.lowest s

pub returns-then-unsigned_abs-den-clause-read : goal.returns-then-unsigned_abs-den-clause-read
returns-then-unsigned_abs-den-clause-read c = grind (arith, common_steps)

pub returns-clause-read : goal.returns-clause-read
returns-clause-read c = grind (arith, common_steps)
