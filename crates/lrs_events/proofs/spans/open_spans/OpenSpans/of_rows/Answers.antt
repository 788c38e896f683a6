use Rattle.std.proofs.Common.{ap, ◌∙◌}
use Rattle.lrs_events.specs.Spans.{are_rows}
use Rattle.lrs_events.proofs.RouteSpans.Loading.{these_come}
use Rattle.lrs_events.proofs.spans.open_spans.OpenSpans.of_rows.Goals as goal

pub change-requires-clause-canonical : goal.change-requires-clause-canonical
change-requires-clause-canonical c = ap are_rows (these_come c.args.rows.items c.deref-2.result.now c.make_room.new.self.rows c.requires c.deref-2.ensures.value (c.make_room.ensures.rows ∙ c.empty-spans.ensures)) ∙ c.requires

pub returns : goal.returns
returns c = c.change.ensures ∙ these_come c.args.rows.items c.deref-2.result.now c.make_room.new.self.rows c.requires c.deref-2.ensures.value (c.make_room.ensures.rows ∙ c.empty-spans.ensures)
