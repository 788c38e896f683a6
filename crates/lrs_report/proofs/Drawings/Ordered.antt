-- Order along the route is order on the page.
use Rattle.std.proofs.Common.{◌≡◌, ℕ, ◌+◌, ◌-◌, ◌*◌, ◌/◌, ◌<◌, ◌≤◌, arith}
use Rattle.std.specs.Prelude.{min}
use Rattle.std.proofs.Math.Nat.{div-le_of_le-mul, div-mul-le_self}
use Rattle.std.proofs.lemmas.Nat.{le-div}
use Rattle.lrs_report.specs.declared.diagrams.scale.Scale.{Scale}
use Rattle.lrs_report.specs.Drawings.Laws.{KeepsOrder}

-- a quotient of more is no less
quotients : (m n k : ℕ) → 0 < k → m ≤ n → m / k ≤ n / k
quotients m n k some less = let part = div-mul-le_self m k in le-div (m / k) n k some (omega (arith, part, less))

behind : (from to low high : ℕ) → low ≤ high → (min low to - from) * 10_000 ≤ (min high to - from) * 10_000
behind from to low high less = omega arith

within : (from to high : ℕ) → (min high to - from) * 10_000 ≤ (to - from) * 10_000
within from to high = omega arith

pub kept : (s : Scale) (low high : ℕ) → low ≤ high → KeepsOrder s low high
kept s low high less =
    let wide : 0 < s.to - s.from = let ordered = s.ordered in omega arith in
    let order = quotients ((min low s.to - s.from) * 10_000) ((min high s.to - s.from) * 10_000) (s.to - s.from) wide (behind s.from s.to low high less) in
    let right = div-le_of_le-mul (s.to - s.from) {m = (min high s.to - s.from) * 10_000} {n = 10_000} (within s.from s.to high) in
    record {
      order = omega (arith, order);
      left = omega arith;
      right = omega (arith, right);
    }
