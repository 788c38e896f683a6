use Rattle.std.proofs.Common.{arith}
use Rattle.lrs_web_requests.proofs.KnownLemmas.{Consumes-nothing}
use Rattle.lrs_web_requests.proofs.HeadLemmas.{no_head_in_nothing, finds_settled, parsed_settled, read_more}
use Rattle.lrs_web_requests.proofs.head.read_head.Goals as goal

pub loop-filled-init : goal.loop-filled-init
loop-filled-init g c = record { fits = omega arith; consumed = Consumes-nothing _; none = no_head_in_nothing }

pub loop-filled-preserved : goal.loop-filled-preserved
loop-filled-preserved g c = record {
  fits = c.in_ok-count.ensures.fits;
  consumed = read_more _ _ _ _ _ _ _ c.in_ok-count.ensures c.loop-filled.invariant.consumed;
  none = c.in-None.ensures.pending;
}

pub returns-in-Some-clause-consumed : goal.returns-in-Some-clause-consumed
returns-in-Some-clause-consumed g c = read_more _ _ _ _ _ _ _ c.in_ok-count.ensures c.loop-filled.invariant.consumed

pub returns-in-Some-clause-found : goal.returns-in-Some-clause-found
returns-in-Some-clause-found g c =
    finds_settled _ _ _ _ _ _ _ _ c.loop-filled.auto.spans (read_more _ _ _ _ _ _ _ c.in_ok-count.ensures c.loop-filled.invariant.consumed) c.in-Some.ensures.settled

pub returns-in-Some-clause-parsed : goal.returns-in-Some-clause-parsed
returns-in-Some-clause-parsed g c = parsed_settled _ _ _ _ c.in-Some.ensures.settled
