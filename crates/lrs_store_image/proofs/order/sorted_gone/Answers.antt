use Rattle.std.proofs.Common.{rules}
use Rattle.std.proofs.lemmas.Fn.{always_returns_same}
use Rattle.lrs_machine.specs.Sound.{gone_before}
use Rattle.lrs_store_tables.proofs.Contents.Orders.{gone_rank}
use Rattle.lrs_store_image.proofs.order.sorted_gone.Goals as goal

pub returns-clause-sorted : goal.returns-clause-sorted
returns-clause-sorted c = c.sort_unstable_by.ensures.sorted gone_before gone_rank (always_returns_same _ _ _ (λ a r f' k. search rules))
