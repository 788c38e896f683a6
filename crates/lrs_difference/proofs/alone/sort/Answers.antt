use Rattle.std.proofs.Common.{rules}
use Rattle.std.proofs.lemmas.Fn.{always_returns_same}
use Rattle.lrs_events.proofs.LaneLists.Strict.{sorted_two}
use Rattle.lrs_difference.specs.Sweep.{edge_before}
use Rattle.lrs_difference.proofs.SortedEdges.{edge_ranks}
use Rattle.lrs_difference.proofs.alone.sort.Goals as goal

pub returns-clause-order : goal.returns-clause-order
returns-clause-order c = sorted_two edge_before edge_ranks c.sort_unstable_by.new.self.items (c.sort_unstable_by.ensures.sorted edge_before edge_ranks (always_returns_same _ _ _ (λ a r f' k. search rules)))
