use Rattle.std.proofs.Common.{◌∙◌, sym}
use Rattle.lrs_events.proofs.LaneLists.Ranks.{of_one_class}
use Rattle.lrs_events.proofs.lanes.order.is_before_by_asset.Goals as goal

pub returns-then-eq : goal.returns-then-eq
returns-then-eq c = c.is_before_in_class.ensures ∙ sym (of_one_class c.args.r.now c.args.s.now (sym c.eq.ensures ∙ c.if-eq.true))
