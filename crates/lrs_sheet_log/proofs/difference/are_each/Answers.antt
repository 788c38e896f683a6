use Rattle.std.proofs.Common.{◌≡◌, ◌<◌, true, length, rules}
use Rattle.lrs_sheet_log.proofs.Each.{one-more}
use Rattle.lrs_sheet_log.proofs.difference.are_each.Goals as goal

pub loop-place-preserved : goal.loop-place-preserved
loop-place-preserved g c =
    let low : c.loop-place.place < length c.args.first.now = search rules in
    let least : c.loop-place.place < length c.args.second.now = search rules in
    let passed : c.is_same.result ≡ true = search rules in
    one-more (g.T.Compared.same c.args.table) c.args.first.now c.args.second.now c.loop-place.place c.index-first-place.result c.index-second-place.result low least c.index-first-place.is c.index-second-place.is (c.is_same.ensures.0 passed) c.loop-place.invariant
