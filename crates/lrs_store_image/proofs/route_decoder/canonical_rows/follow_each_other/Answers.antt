use Rattle.std.proofs.Common.{◌≡◌, rules}
use Rattle.std.proofs.lemmas.List.Sorted.{answers_always}
use Rattle.lrs_store_image.specs.DecodedRoutes.Spans.{follows}
use Rattle.lrs_store_image.proofs.DecodedRoutes.Fitting.{followed}
use Rattle.lrs_store_image.proofs.route_decoder.canonical_rows.follow_each_other.Goals as goal

pub returns : goal.returns
returns c =
    followed c.args.rows.now c.is_sorted_by.result c.requires.filled c.requires.agree
    (c.is_sorted_by.ensures.cases follows (answers_always _ (λ a r. r ≡ follows a.0.now a.1.0.now) _ (λ f a r f' q. search rules)))
