use Rattle.std.proofs.Common.{rules}
use Rattle.std.proofs.lemmas.Fn.{always_returns_same}
use Rattle.lrs_report_answers.specs.DrawnRows.{stands_before}
use Rattle.lrs_report_answers.proofs.Naming.{along_ranks}
use Rattle.lrs_report_answers.proofs.route_diagram.sort_along.Goals as goal

pub returns-clause-sorted : goal.returns-clause-sorted
returns-clause-sorted c = c.sort_unstable_by.ensures.sorted stands_before along_ranks (always_returns_same _ _ _ (λ a r f' k. search rules))
