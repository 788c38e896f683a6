use Rattle.std.proofs.Common.{map, take}
use Rattle.lrs_promises.specs.Calls.{DidAll}
use Rattle.lrs_promises.proofs.call_list.do_all.Given as goal

abbrev pub invariant-loop-call : goal.invariant-loop-call
invariant-loop-call g l = DidAll g.K.Holder.may_hold (take l.call-index l.calls) (map (λ text. text.items) l.written.items) l.fn.desk l.desk
