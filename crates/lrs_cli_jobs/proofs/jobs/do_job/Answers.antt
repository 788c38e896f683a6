use Rattle.std.proofs.Common.{inl, inr, rules}
use Rattle.lrs_cli_jobs.proofs.jobs.do_job.Goals as goal

pub returns-in-Ok : goal.returns-in-Ok
returns-in-Ok g c = inl (c.in-Ok.task, c.in-Ok.ensures.task, c.do_task.ensures)

pub returns-in-Err-Unreadable : goal.returns-in-Err-Unreadable
returns-in-Err-Unreadable g c = inr (c.in-Err-Unreadable.field-0, c.in-Err-Unreadable.ensures.unread, search rules)

pub returns-in-Err-Memory : goal.returns-in-Err-Memory
returns-in-Err-Memory g c = inr (c.in-Err-Memory.field-0, c.in-Err-Memory.ensures.unread, search rules)
