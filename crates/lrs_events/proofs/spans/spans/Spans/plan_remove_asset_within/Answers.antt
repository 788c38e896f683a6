use Rattle.std.proofs.Common.{◌∙◌, ◌&&◌, nat_eq, ap}
use Rattle.lrs_measure.specs.Texts.{same_name}
use Rattle.lrs_events.specs.Spans.{are_rows}
use Rattle.lrs_events.specs.Row.Members.{is_of}
use Rattle.lrs_events.specs.Row.Removals.{is_within, IsRemoval}
use Rattle.lrs_events.proofs.Row.Cleared.{finds_asset}
use Rattle.lrs_events.proofs.Row.Replaced.{found_rows}
use Rattle.lrs_events.proofs.spans.spans.Spans.plan_remove_asset_within.Goals as goal

pub cleared-requires : goal.cleared-requires
cleared-requires c =
    record { rows = ap are_rows c.asset_rows-found.ensures.rows ∙ found_rows (is_of c.args.class c.args.asset) c.args.self.now c.asset_rows-found.ensures.canonical }

pub returns-clause-removal : goal.returns-clause-removal
returns-clause-removal c = c.in_ok-removal.ensures.removal c.args.self.now (is_of c.args.class c.args.asset) (λ class asset. same_name class c.args.class && nat_eq asset c.args.asset) c.asset_rows-found.ensures.canonical c.asset_rows-found.ensures.rows (finds_asset c.args.class c.args.asset c.args.low c.args.high c.args.self.now)

pub returns-clause-plan : goal.returns-clause-plan
returns-clause-plan c =
    let removed : IsRemoval (λ class asset j s. same_name class c.args.class && nat_eq asset c.args.asset && is_within c.args.low c.args.high j) c.args.self.now c.in_ok-removal.removal = c.in_ok-removal.ensures.removal c.args.self.now (is_of c.args.class c.args.asset) (λ class asset. same_name class c.args.class && nat_eq asset c.args.asset) c.asset_rows-found.ensures.canonical c.asset_rows-found.ensures.rows (finds_asset c.args.class c.args.asset c.args.low c.args.high c.args.self.now) in
    record { kept = removed.kept; change = removed.change; in_order = c.in_ok-removal.ensures.in_order }
