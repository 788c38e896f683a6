use Rattle.std.proofs.Common.{rules}
use Rattle.std.proofs.lemmas.Fn.{always_returns_same}
use Rattle.std.specs.Ordering.{is_lt}
use Rattle.lrs_events.proofs.LaneLists.Strict.{sorted_two}
use Rattle.lrs_report_answers.specs.CombinationParts.{is_ahead, values_cmp}
use Rattle.lrs_report_answers.proofs.Combined.Order.{ranks}
use Rattle.lrs_report_answers.proofs.combinations.order.sort.Goals as goal

pub returns-clause-order : goal.returns-clause-order
returns-clause-order c = sorted_two is_ahead ranks c.sort_unstable_by.new.self.items (c.sort_unstable_by.ensures.sorted is_ahead ranks (always_returns_same _ _ _ (λ a r f' k. search rules)))
