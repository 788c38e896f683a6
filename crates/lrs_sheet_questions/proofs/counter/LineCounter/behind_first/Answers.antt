use Rattle.std.proofs.Common.{◌∙◌, ap, sym, ◌-◌, ℕ}
use Rattle.lrs_sheet_questions.proofs.Passing.{behind-count}
use Rattle.lrs_sheet_questions.proofs.counter.LineCounter.behind_first.Goals as goal

pub returns : goal.returns
returns c = c.saturating_sub.ensures ∙ ap (λ (n : ℕ). n - 1) c.args.self.now.counted ∙ sym (behind-count c.args.self.now.given.text)
