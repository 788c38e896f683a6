use Rattle.std.proofs.lemmas.Bool.{eqb-true}
use Rattle.lrs_events.proofs.RouteSpans.Gathering.{with_repeated}
use Rattle.lrs_events.proofs.spans.overlaps.repeats.Goals as goal

pub returns-then-i-ne0 : goal.returns-then-i-ne0
returns-then-i-ne0 c h class r = with_repeated c.args.met.now c.args.i c.requires c.index-met-i.result c.index-met-i-then-i-ne0.result c.if-i-ne0.true (eqb-true _ _ h) class r
