use Rattle.lrs_promises.proofs.DeskLaws.Never.{never}
use Rattle.lrs_promises.proofs.steps.act_in_memory.Goals as goal

pub returns-clause-never : goal.returns-clause-never
returns-clause-never c = λ e. never (rw (c.prove_kept.ensures.failures, c.prove_kept-2.ensures.failures) at (c.act-answer.ensures.keep e).cause)
