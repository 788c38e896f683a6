use Rattle.std.proofs.Common.{rules}
use Rattle.std.proofs.lemmas.Fn.{always_returns_same}
use Rattle.lrs_events.specs.RouteSpans.Overlaps.{goes_before}
use Rattle.lrs_events.proofs.RouteSpans.Gathering.{sorting_ranks}
use Rattle.lrs_events.proofs.spans.overlaps.sort.Goals as goal

pub returns-clause-sorted : goal.returns-clause-sorted
returns-clause-sorted c = c.sort_unstable_by.ensures.sorted (goes_before c.args.by) (sorting_ranks c.args.by) (always_returns_same _ _ _ (λ a r f' k. search rules))
