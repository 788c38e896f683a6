use Rattle.std.proofs.Common.{refl}
use Rattle.lrs_web.proofs.request.do_task.Goals as goal

pub returns-in-Query : goal.returns-in-Query
returns-in-Query g c = rw c.in-Query.is (refl, (rw c.as_slice.ensures.value at c.query_reply.ensures.answered), c.query_reply.ensures.broken, c.query_reply.ensures.uncommitted)
