use Rattle.std.proofs.Common.{[], arith}
use Rattle.lrs_ordered.proofs.Finds.{elsewhere}
use Rattle.lrs_ordered.proofs.search.chunk_of.Goals as goal

pub returns-clause-front : goal.returns-clause-front
returns-clause-front g c =
    (elsewhere (λ (row : g.row.T.Denot). g.T.Keyed.key_order row c.args.key.now) c.args.chunks.now c.chunks_up_to.result c.saturating_sub.result [] c.requires.filled c.requires.order c.chunks_up_to.ensures.place c.saturating_sub.ensures (omega (arith, c.saturating_sub.ensures, c.chunks_up_to.ensures.within, c.requires.some))).0

pub returns-clause-rear : goal.returns-clause-rear
returns-clause-rear g c =
    (elsewhere (λ (row : g.row.T.Denot). g.T.Keyed.key_order row c.args.key.now) c.args.chunks.now c.chunks_up_to.result c.saturating_sub.result [] c.requires.filled c.requires.order c.chunks_up_to.ensures.place c.saturating_sub.ensures (omega (arith, c.saturating_sub.ensures, c.chunks_up_to.ensures.within, c.requires.some))).1
