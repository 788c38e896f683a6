use Rattle.std.proofs.Common.{refl, rules}
use Rattle.std.specs.Prelude.{not}
use Rattle.std.proofs.lemmas.List.Sorted.{IsPartitionPoint-from_clause}
use Rattle.lrs_measure.proofs.Insertions.{placed}
use Rattle.lrs_ordered.specs.SearchedLists.{first_passes}
use Rattle.lrs_ordered.proofs.Places.{parted, placed_between}
use Rattle.lrs_ordered.proofs.Joins.{firsts_parted}
use Rattle.lrs_ordered.proofs.insertion.place_among.Goals as goal

pub returns-clause-place : goal.returns-clause-place
returns-clause-place g c =
    let first = first_passes (g.T.Ordered.before c.args.row.now) in
    let chunks = c.args.chunks.now in
    placed first chunks c.partition_point.result c.partition_point.ensures.bound
    (IsPartitionPoint-from_clause (λ chunk. not (first chunk)) chunks c.partition_point.result c.partition_point.ensures.partitioned
    (parted first chunks (firsts_parted (g.T.Ordered.before c.args.row.now) chunks c.requires.filled c.requires.order)) (λ a r q k. search rules))

pub returns-then-is_place-clause-place : goal.returns-then-is_place-clause-place
returns-then-is_place-clause-place g c =
    let first = first_passes (g.T.Ordered.before c.args.row.now) in
    let chunks = c.args.chunks.now in
    let is = c.if-is_place.ensures in
    placed_between first chunks c.up_to-likely.result (firsts_parted (g.T.Ordered.before c.args.row.now) chunks c.requires.filled c.requires.order) (is.within refl) (is.front refl) (is.rear refl)
