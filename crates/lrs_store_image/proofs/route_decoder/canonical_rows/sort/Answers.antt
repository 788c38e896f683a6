use Rattle.std.proofs.Common.{rules}
use Rattle.std.proofs.lemmas.Fn.{always_returns_same}
use Rattle.lrs_events.specs.Spans.{span_before}
use Rattle.lrs_store_image.proofs.DecodedRoutes.Fitting.{rows_rank}
use Rattle.lrs_store_image.proofs.route_decoder.canonical_rows.sort.Goals as goal

pub returns-clause-sorted : goal.returns-clause-sorted
returns-clause-sorted c = c.sort_unstable_by.ensures.sorted span_before rows_rank (always_returns_same _ _ _ (λ a r f' k. search rules))
