use Rattle.std.proofs.Common.{◌≡◌, ℕ, ◌+◌, ◌-◌, ◌*◌, ◌≤◌, pos, to_z, arith, Option, Some, None}
use Rattle.std.proofs.lemmas.Grind.{common_steps}
use Rattle.std.specs.Int.{w128}
use Rattle.std.specs.Option.{IsSomeAnd, IsSome, IfSome}
use Rattle.std.proofs.lemmas.Int.{to_z_pos, ints}
use Rattle.std.proofs.Math.Nat.{mul-pos}
use Rattle.lrs_measure.specs.Fraction.{IsInRange}
use Rattle.lrs_element.proofs.LineLemmas.{value_limit, width_limit}
use Rattle.lrs_element.proofs.line.straight.Goals as goal

-- what the code computes
abbrev total : goal.After-struct_known-6-1 → ℕ
total c = c.args.p.value * ((c.args.q.place - c.args.p.place) * c.args.d) + (c.args.n - c.args.p.place * c.args.d) * (c.args.q.value - c.args.p.value)

total_limit : (c : goal.After-struct_known-6-1) → total c ≤ 100_000_000_000_000_000_000_000_000_000_000_000_000
total_limit c = value_limit _ _ _ _ _ _ c.requires.to c.requires.rise c.requires.climb c.requires.places c.requires.values c.requires.fine

pub overflow_cast-value-2 : goal.overflow_cast-value-2
overflow_cast-value-2 c = let h = total_limit c in omega (arith, ints)

some_and : {X : Type 0} (o : Option X) (P : X → Type 0) → IsSome o → IfSome o P → IsSomeAnd o P
some_and None P s h = absurd (cc s)
some_and (Some x) P s h = h

given_is : (c : goal.After-struct_known-6-1) → to_z w128 (total c) ≡ pos (total c)
given_is c = to_z_pos w128 (total c) (omega (arith, total_limit c))

in_range : (c : goal.After-struct_known-6-1) → IsInRange (pos (total c)) ((c.args.q.place - c.args.p.place) * c.args.d)
in_range c = record {
  positive = mul-pos (omega (arith, c.requires.rise)) c.requires.positive;
  denominator = omega (arith, width_limit c.args.p.place c.args.q.place c.args.d c.requires.places c.requires.fine);
  numerator = total_limit c;
}

pub returns-clause-value : goal.returns-clause-value
returns-clause-value c = some_and _ _ (c.new.ensures.in_range.1 (rw (given_is c.before) (in_range c.before))) (rw (given_is c.before) at c.new.ensures.value)

pub returns-clause-lowest : goal.returns-clause-lowest
returns-clause-lowest c = grind (arith, common_steps)
