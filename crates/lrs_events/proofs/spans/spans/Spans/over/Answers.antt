use Rattle.lrs_events.proofs.RouteSpans.Finding.{none_over}
use Rattle.lrs_events.proofs.spans.spans.Spans.over.Goals as goal

pub returns-else-from-to : goal.returns-else-from-to
returns-else-from-to c = none_over c.args.self.now c.args.class c.args.from c.args.to c.args.side c.if-from-to.false
