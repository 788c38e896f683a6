use Rattle.std.specs.Str.Lines.{lines}
use Rattle.lrs_web_replies.proofs.TrialText.{all_told, one_more}
use Rattle.lrs_web_replies.proofs.trial.add_lines.Goals as goal

pub loop-line-preserved : goal.loop-line-preserved
loop-line-preserved c =
    one_more c.args.bytes.now.items c.loop-line.bytes.items c.add_line.new.bytes.items (lines c.args.text.now) c.loop-line.line-iterator c.next.new.self c.in-Some.line
    c.loop-line.invariant c.in-Some.ensures.steps c.in_ok-add_line.ensures

pub returns : goal.returns
returns c = all_told c.args.bytes.now.items c.loop-line.bytes.items (lines c.args.text.now) _ _ c.loop-line.invariant c.in-None.ensures.steps
