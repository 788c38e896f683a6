use Rattle.std.proofs.Common.{sym, ap, ◌∙◌, length}
use Rattle.lrs_events.proofs.Ledger.Running.{last_longer, one_behind}
use Rattle.lrs_events.proofs.ledgers.run.push_run.Goals as goal

pub returns-in-Some : goal.returns-in-Some
returns-in-Some c = last_longer c.args.runs.now.items c.in-Some.last _ c.args.run (sym (ap length c.deref.ensures.value) ∙ c.in-Some.ensures.found.0) c.index.ensures (rw c.deref.ensures.value at (c.in-Some.ensures.found.1 c.index.result.now))

pub returns-in_ok-push-in-None : goal.returns-in_ok-push-in-None
returns-in_ok-push-in-None c = c.in_ok-push-in-None.ensures.items ∙ one_behind c.args.runs.now.items c.args.run (rw c.deref.ensures.value at c.in-None.ensures.none)
