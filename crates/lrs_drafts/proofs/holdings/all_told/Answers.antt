use Rattle.std.proofs.Common.{[], ◌∷◌, ap, map}
use Rattle.lrs_difference.proofs.HeldPieces.{more, none_more}
use Rattle.lrs_drafts.specs.Holdings.{told}
use Rattle.lrs_drafts.proofs.holdings.all_told.Goals as goal

pub loop-row-preserved : goal.loop-row-preserved
loop-row-preserved c =
    more (map told c.args.rows.now.rows) c.loop-row.all.items c.push_told.new.all.items (told c.in-Some.row.now ∷ []) (map told c.loop-row.row-iterator) (map told c.next.new.self) c.loop-row.invariant
    (ap (map told) c.in-Some.ensures.steps) c.in_ok-push_told.ensures

pub returns : goal.returns
returns c = none_more (map told c.args.rows.now.rows) c.loop-row.all.items (map told c.loop-row.row-iterator) c.loop-row.invariant (ap (map told) c.in-None.ensures.steps.0)
