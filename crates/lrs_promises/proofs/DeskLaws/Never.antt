-- No count rises from nothing to nothing.
use Rattle.std.proofs.Common.{inl, inr, arith}
use Rattle.lrs_image.specs.KeeperCalls.{HasRisen}

pub never : HasRisen 0 0 → ⊥
never (inl h) = omega (arith, h)
never (inr h) = omega (arith, h)
