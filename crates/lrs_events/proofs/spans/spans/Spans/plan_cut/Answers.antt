use Rattle.std.proofs.Common.{◌∙◌, nat_lt, ap}
use Rattle.lrs_events.specs.Spans.{are_rows}
use Rattle.lrs_events.specs.Row.Cuts.{IsCutOff}
use Rattle.lrs_events.proofs.Row.Replaced.{found_rows}
use Rattle.lrs_events.proofs.spans.spans.Spans.plan_cut.Goals as goal

pub cut_at-requires : goal.cut_at-requires
cut_at-requires c =
    ap are_rows (c.deref.ensures.value ∙ c.in_ok-found.ensures.found) ∙ found_rows (λ r. nat_lt c.args.at r.to) c.args.self.now c.in_ok-found.ensures.canonical

pub returns-clause-plan : goal.returns-clause-plan
returns-clause-plan c =
    let parts : IsCutOff c.args.at c.args.self.now c.in_ok-cut.cut = c.in_ok-cut.ensures.cut c.args.self.now c.in_ok-found.ensures.canonical (c.deref.ensures.value ∙ c.in_ok-found.ensures.found) in
    record { kept = parts.kept; change = parts.change; in_order = c.in_ok-cut.ensures.in_order }

pub returns-clause-rear : goal.returns-clause-rear
returns-clause-rear c = let parts : IsCutOff c.args.at c.args.self.now c.in_ok-cut.cut = c.in_ok-cut.ensures.cut c.args.self.now c.in_ok-found.ensures.canonical (c.deref.ensures.value ∙ c.in_ok-found.ensures.found) in parts.rear_rows

pub returns-clause-cut : goal.returns-clause-cut
returns-clause-cut c = let parts : IsCutOff c.args.at c.args.self.now c.in_ok-cut.cut = c.in_ok-cut.ensures.cut c.args.self.now c.in_ok-found.ensures.canonical (c.deref.ensures.value ∙ c.in_ok-found.ensures.found) in parts.parts
