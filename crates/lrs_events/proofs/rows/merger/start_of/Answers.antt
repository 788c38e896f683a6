use Rattle.std.proofs.Common.{inl, inr, sym, ◌∙◌, arith}
use Rattle.lrs_events.proofs.Row.Places.{starts_joined, starts_alone}
use Rattle.lrs_events.proofs.rows.merger.start_of.Goals as goal
use Rattle.lrs_events.proofs.rows.merger.start_of.Goals.{then-at-gt0+else-joins, else-at-gt0}

pub returns-then-joins : goal.returns-then-joins
returns-then-joins c = starts_joined c.args.rows.now c.args.at c.args.span.now c.index-rows-at.result (omega arith) c.requires.within c.index-rows-at.is (sym c.joins.ensures ∙ c.if-joins.true)

pub returns : goal.returns
returns c =
    starts_alone c.args.rows.now c.args.at c.args.span.now c.requires.rows c.requires.within c.requires.place
    (elim c.if-at-gt0.branch [
      | then-at-gt0+else-joins w ↦ inr (w.index-rows-at.result, omega (arith, w.if-at-gt0.true), w.index-rows-at.is, sym w.joins.ensures ∙ w.if-joins.false)
      | else-at-gt0 w ↦ inl (omega (arith, w.if-at-gt0.false))
    ])
