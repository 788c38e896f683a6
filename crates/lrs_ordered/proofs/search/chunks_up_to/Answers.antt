use Rattle.std.proofs.Common.{refl, rules}
use Rattle.std.specs.Prelude.{not}
use Rattle.std.specs.Ordering.{is_gt}
use Rattle.std.proofs.lemmas.List.Sorted.{IsPartitionPoint-from_clause}
use Rattle.lrs_measure.proofs.Insertions.{placed}
use Rattle.lrs_ordered.specs.SearchedLists.{first_passes, joined}
use Rattle.lrs_ordered.proofs.Places.{parted, placed_between}
use Rattle.lrs_ordered.proofs.Joins.{firsts_parted}
use Rattle.lrs_ordered.proofs.Finds.{parted_above}
use Rattle.lrs_ordered.proofs.search.chunks_up_to.Goals as goal

pub returns-clause-place : goal.returns-clause-place
returns-clause-place g c =
    let order = λ (row : g.row.T.Denot). g.T.Keyed.key_order row c.args.key.now in
    let above = λ (row : g.row.T.Denot). is_gt (order row) in
    let chunks = c.args.chunks.now in
    placed (first_passes above) chunks c.partition_point.result c.partition_point.ensures.bound
    (IsPartitionPoint-from_clause (λ chunk. not (first_passes above chunk)) chunks c.partition_point.result c.partition_point.ensures.partitioned
    (parted (first_passes above) chunks (firsts_parted above chunks c.requires.filled (parted_above order (joined chunks) c.requires.order))) (λ a r q k. search rules))

pub returns-then-are_up_to-clause-place : goal.returns-then-are_up_to-clause-place
returns-then-are_up_to-clause-place g c =
    let order = λ (row : g.row.T.Denot). g.T.Keyed.key_order row c.args.key.now in
    let above = λ (row : g.row.T.Denot). is_gt (order row) in
    let chunks = c.args.chunks.now in
    let is = c.if-are_up_to.ensures in
    placed_between (first_passes above) chunks c.up_to-likely.result (firsts_parted above chunks c.requires.filled (parted_above order (joined chunks) c.requires.order)) (is.within refl) (is.front refl) (is.rear refl)
