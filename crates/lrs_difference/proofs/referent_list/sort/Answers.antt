use Rattle.std.proofs.Common.{rules}
use Rattle.std.proofs.lemmas.Fn.{always_returns_same}
use Rattle.lrs_difference.specs.Placed.{named_before}
use Rattle.lrs_difference.proofs.Gathered.{placed_ranks, sorted_by_name}
use Rattle.lrs_difference.proofs.referent_list.sort.Goals as goal

pub returns : goal.returns
returns c =
    sorted_by_name c.args.entries.now.items c.sort_unstable_by.new.self.items c.requires c.sort_unstable_by.ensures.permutation
    (c.sort_unstable_by.ensures.sorted named_before placed_ranks (always_returns_same _ _ _ (λ a r f' k. search rules)))
