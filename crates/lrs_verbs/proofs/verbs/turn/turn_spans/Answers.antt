use Rattle.std.proofs.Common.{List, subst}
use Rattle.lrs_inventory.specs.Prelude.{Span, IsPlan}
use Rattle.lrs_verbs.proofs.TurnedRoute.{plan_of_rows}
use Rattle.lrs_verbs.proofs.verbs.turn.turn_spans.Goals as goal

pub returns-clause-plan : goal.returns-clause-plan
returns-clause-plan c =
    let change = c.in_ok-change.change in
    subst (λ (rows : List Span). IsPlan rows change) c.rows-rows.ensures.rows
    (plan_of_rows c.rows-rows.result.now c.deref.result.now change (rw c.rows-rows.ensures.rows c.rows-rows.ensures.canonical) (rw c.deref.ensures.value c.in_ok-turned.ensures.rows) c.in_ok-change.ensures.gone c.in_ok-change.ensures.change c.in_ok-change.ensures.new)
