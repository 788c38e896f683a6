use Rattle.std.proofs.Common.{◌≡◌, ◌<◌, true, length, rules}
use Rattle.lrs_sheet_log.proofs.Each.{one-more}
use Rattle.lrs_drafts.proofs.holdings.are_same_told.Goals as goal

pub loop-place-preserved : goal.loop-place-preserved
loop-place-preserved c =
    let low : c.loop-place.place < length c.args.one.now = search rules in
    let least : c.loop-place.place < length c.args.other.now = search rules in
    let passed : c.is_same_told.result ≡ true = search rules in
    one-more (λ a b. a ≡ b) c.args.one.now c.args.other.now c.loop-place.place c.index-one-place.result c.index-other-place.result low least c.index-one-place.is c.index-other-place.is (c.is_same_told.ensures.0 passed) c.loop-place.invariant
