use Rattle.std.proofs.Common.{◌≡◌, map, take}
use Rattle.lrs_report_answers.proofs.list_totals.spans_of.Given as goal

abbrev pub invariant-loop-row : goal.invariant-loop-row
invariant-loop-row l = map (λ s. s.now) l.spans.items ≡ map (λ e. e.spans) (take l.row-index l.routes)
