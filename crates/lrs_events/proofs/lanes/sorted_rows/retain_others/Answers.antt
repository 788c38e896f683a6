use Rattle.std.proofs.Common.{rules, not}
use Rattle.std.proofs.lemmas.Fn.{filter_same}
use Rattle.lrs_events.specs.Changes.{has_row}
use Rattle.lrs_events.proofs.lanes.sorted_rows.retain_others.Goals as goal

pub returns-clause-items : goal.returns-clause-items
returns-clause-items c = filter_same _ (λ r. not (has_row c.args.gone.now r)) _ (λ x b f' k. search rules) c.args.rows.now.items _ c.retain.ensures.filtered
