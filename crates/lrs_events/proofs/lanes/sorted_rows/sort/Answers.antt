use Rattle.std.proofs.Common.{rules}
use Rattle.std.proofs.lemmas.Fn.{always_returns_same}
use Rattle.lrs_events.specs.LaneLists.Order.{row_before}
use Rattle.lrs_events.proofs.LaneLists.Ranks.{row_ranks}
use Rattle.lrs_events.proofs.lanes.sorted_rows.sort.Goals as goal

pub returns-clause-sorted : goal.returns-clause-sorted
returns-clause-sorted c = c.sort_unstable_by.ensures.sorted (row_before c.args.order) (row_ranks c.args.order) (always_returns_same _ _ _ (λ a r f' k. search rules))
