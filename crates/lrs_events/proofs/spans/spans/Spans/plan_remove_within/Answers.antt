use Rattle.std.proofs.Common.{◌∙◌, ap, true}
use Rattle.lrs_events.specs.Spans.{are_rows}
use Rattle.lrs_events.specs.Row.Removals.{is_met, is_within, IsRemoval}
use Rattle.lrs_events.proofs.Row.Cleared.{finds_met}
use Rattle.lrs_events.proofs.Row.Replaced.{found_rows}
use Rattle.lrs_events.proofs.spans.spans.Spans.plan_remove_within.Goals as goal

pub cleared-requires : goal.cleared-requires
cleared-requires c =
    record { rows = ap are_rows (c.deref.ensures.value ∙ c.in_ok-found.ensures.found) ∙ found_rows (is_met c.args.low c.args.high) c.args.self.now c.in_ok-found.ensures.canonical }

pub returns-clause-removal : goal.returns-clause-removal
returns-clause-removal c = c.in_ok-removal.ensures.removal c.args.self.now (is_met c.args.low c.args.high) (λ class asset. true) c.in_ok-found.ensures.canonical (c.deref.ensures.value ∙ c.in_ok-found.ensures.found) (finds_met c.args.low c.args.high c.args.self.now)

pub returns-clause-plan : goal.returns-clause-plan
returns-clause-plan c =
    let removed : IsRemoval (λ class asset j s. is_within c.args.low c.args.high j) c.args.self.now c.in_ok-removal.removal = c.in_ok-removal.ensures.removal c.args.self.now (is_met c.args.low c.args.high) (λ class asset. true) c.in_ok-found.ensures.canonical (c.deref.ensures.value ∙ c.in_ok-found.ensures.found) (finds_met c.args.low c.args.high c.args.self.now) in
    record { kept = removed.kept; change = removed.change; in_order = c.in_ok-removal.ensures.in_order }
