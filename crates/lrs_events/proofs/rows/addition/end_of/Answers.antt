use Rattle.std.proofs.Common.{inl, inr, sym, ◌∙◌}
use Rattle.lrs_events.proofs.Row.Places.{ends_joined, ends_alone}
use Rattle.lrs_events.proofs.rows.addition.end_of.Goals as goal
use Rattle.lrs_events.proofs.rows.addition.end_of.Goals.{then-at-rows+else-joins, else-at-rows}

pub returns-then-joins-clause-end : goal.returns-then-joins-clause-end
returns-then-joins-clause-end c = ends_joined c.args.rows.now c.args.at c.args.span.now c.index-rows-at.result c.if-at-rows.true c.index-rows-at.is (sym c.joins.ensures ∙ c.if-joins.true)

pub returns-clause-end : goal.returns-clause-end
returns-clause-end c =
    ends_alone c.args.rows.now c.args.at c.args.span.now c.requires.rows c.requires.place
    (elim c.if-at-rows.branch [
      | then-at-rows+else-joins w ↦ inr (w.index-rows-at.result, w.if-at-rows.true, w.index-rows-at.is, sym w.joins.ensures ∙ w.if-joins.false)
      | else-at-rows w ↦ inl w.if-at-rows.false
    ])
