use Rattle.std.specs.Str.Lines.{lines}
use Rattle.lrs_web_replies.proofs.TrialText.{LinesLeft}
use Rattle.lrs_web_replies.proofs.trial.add_lines.Given as goal

abbrev pub invariant-loop-line : goal.invariant-loop-line
invariant-loop-line l = LinesLeft l.fn.bytes.items l.bytes.items (lines l.text) l.line-iterator
