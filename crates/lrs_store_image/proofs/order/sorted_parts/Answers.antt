use Rattle.std.proofs.Common.{rules}
use Rattle.std.proofs.lemmas.Fn.{always_returns_same}
use Rattle.lrs_events.specs.Parts.{part_before}
use Rattle.lrs_store_tables.proofs.Contents.Orders.{parts_rank}
use Rattle.lrs_store_image.proofs.order.sorted_parts.Goals as goal

pub returns-clause-sorted : goal.returns-clause-sorted
returns-clause-sorted c = c.sort_unstable_by.ensures.sorted part_before parts_rank (always_returns_same _ _ _ (λ a r f' k. search rules))
