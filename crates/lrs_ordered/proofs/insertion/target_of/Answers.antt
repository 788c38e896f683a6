use Rattle.std.specs.Prelude.{not}
use Rattle.lrs_ordered.proofs.Joins.{target_parts}
use Rattle.lrs_ordered.proofs.insertion.target_of.Goals as goal

pub returns-clause-front : goal.returns-clause-front
returns-clause-front g c =
    (target_parts (λ y. not (g.T.Ordered.before c.args.row.now y)) (g.T.Ordered.before c.args.row.now) c.args.chunks.now c.place_among.result c.saturating_sub.result c.requires.filled c.requires.order c.requires.order c.place_among.ensures.place c.saturating_sub.ensures).0

pub returns-clause-rear : goal.returns-clause-rear
returns-clause-rear g c =
    (target_parts (λ y. not (g.T.Ordered.before c.args.row.now y)) (g.T.Ordered.before c.args.row.now) c.args.chunks.now c.place_among.result c.saturating_sub.result c.requires.filled c.requires.order c.requires.order c.place_among.ensures.place c.saturating_sub.ensures).1
