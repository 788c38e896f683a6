use Rattle.std.proofs.Common.{◌∙◌}
use Rattle.lrs_events.proofs.RouteSpans.Behind.{behind_is}
use Rattle.lrs_events.proofs.spans.spans.Spans.behind.Goals as goal

pub returns-clause-found : goal.returns-clause-found
returns-clause-found c = c.in_ok-found.ensures.found ∙ behind_is c.args.at c.args.self.now c.in_ok-found.ensures.canonical
