use Rattle.std.proofs.Common.{length, ◌-◌}
use Rattle.lrs_web_requests.specs.Body.{FilledTo}
use Rattle.lrs_web_requests.proofs.body.fill.Given as goal

-- what was read stands in the buffer
abbrev pub invariant-loop-filled : goal.invariant-loop-filled
invariant-loop-filled g l =
    let remaining = g.R.Read.remaining in
    FilledTo (remaining l.fn.reader) (remaining l.reader) l.fn.from l.fn.buffer l.buffer l.filled

abbrev pub decreases-loop-filled : goal.decreases-loop-filled
decreases-loop-filled g l = length l.initial.buffer - l.filled
