use Rattle.std.proofs.Common.{rules}
use Rattle.std.proofs.lemmas.Fn.{always_returns_same}
use Rattle.lrs_events.proofs.LaneLists.Strict.{sorted_two}
use Rattle.lrs_report_lists.specs.Length.Parts.{entry_before}
use Rattle.lrs_report_lists.proofs.Length.Ranks.{entry_ranks}
use Rattle.lrs_report_lists.proofs.length_lists.order.sort.Goals as goal

pub returns-clause-order : goal.returns-clause-order
returns-clause-order c = sorted_two entry_before entry_ranks c.sort_unstable_by.new.self.items (c.sort_unstable_by.ensures.sorted entry_before entry_ranks (always_returns_same _ _ _ (λ a r f' k. search rules)))
