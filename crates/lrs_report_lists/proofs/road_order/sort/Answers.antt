use Rattle.std.proofs.Common.{rules}
use Rattle.std.proofs.lemmas.Fn.{always_returns_same}
use Rattle.lrs_report_lists.specs.RoadOrder.{road_before}
use Rattle.lrs_report_lists.proofs.RoadOrder.{road_ranks, sorted_by_road}
use Rattle.lrs_report_lists.proofs.road_order.sort.Goals as goal

pub returns : goal.returns
returns c =
    sorted_by_road c.args.rows.now.items c.sort_unstable_by.new.self.items c.requires c.sort_unstable_by.ensures.permutation
    (c.sort_unstable_by.ensures.sorted road_before road_ranks (always_returns_same _ _ _ (λ a r f' k. search rules)))
