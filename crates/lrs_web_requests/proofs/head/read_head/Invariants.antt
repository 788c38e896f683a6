use Rattle.std.proofs.Common.{length, ◌-◌, ◌≤◌, take}
use Rattle.std.specs.Io.KnownBytes.{Consumes}
use Rattle.httparse.specs.Grammar.{HasNoRequest}
use Rattle.lrs_web_requests.proofs.head.read_head.Given as goal

-- what was read stands at the front of the buffer, and has no head yet
abbrev pub invariant-loop-filled : goal.invariant-loop-filled
invariant-loop-filled g l =
    let remaining = g.R.Read.remaining in
    record {
      fits : l.filled ≤ length l.buffer;
      consumed : Consumes (remaining l.fn.reader) (remaining l.reader) (take l.filled l.buffer);
      none : HasNoRequest (take l.filled l.buffer);
    }

abbrev pub decreases-loop-filled : goal.decreases-loop-filled
decreases-loop-filled g l = length l.initial.buffer - l.filled
