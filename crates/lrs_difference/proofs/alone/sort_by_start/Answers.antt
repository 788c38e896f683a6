use Rattle.std.proofs.Common.{rules}
use Rattle.std.proofs.lemmas.Fn.{always_returns_same}
use Rattle.lrs_difference.specs.Sweep.{starts_before}
use Rattle.lrs_difference.proofs.NearStretches.{start_ranks}
use Rattle.lrs_difference.proofs.alone.sort_by_start.Goals as goal

pub returns-clause-order : goal.returns-clause-order
returns-clause-order c = c.sort_unstable_by.ensures.sorted starts_before start_ranks (always_returns_same _ _ _ (λ a r f' k. search rules))
