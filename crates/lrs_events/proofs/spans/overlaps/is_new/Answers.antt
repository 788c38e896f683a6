use Rattle.lrs_events.specs.RouteSpans.Overlaps.{goes_before}
use Rattle.lrs_events.proofs.RouteSpans.Gathering.{sorting_ranks, newer_at}
use Rattle.std.proofs.Common.{◌∙◌}
use Rattle.lrs_events.proofs.spans.overlaps.is_new.Goals as goal

pub returns-else-i-eq0 : goal.returns-else-i-eq0
returns-else-i-eq0 c d =
    c.goes_before.ensures ∙ newer_at (goes_before c.args.by) (sorting_ranks c.args.by) c.args.rows.now c.requires.sorted c.requires.ranked c.args.i c.index-rows-i.result c.index-rows-i-else-i-eq0.result d
    c.if-i-eq0.false c.requires.within c.index-rows-i.is c.index-rows-i-else-i-eq0.is
