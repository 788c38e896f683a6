use Rattle.std.proofs.Common.{◌≡◌, ◌≤◌, drop}
use Rattle.lrs_web_requests.specs.Values.{capped_from, cap}
use Rattle.lrs_web_requests.proofs.framing.capped_number.Given as goal

abbrev pub invariant-loop-digit : goal.invariant-loop-digit
invariant-loop-digit l = record {
  low : l.number ≤ cap;
  rest : capped_from l.number (drop l.digit-index l.digits) ≡ capped_from 0 l.digits;
}
