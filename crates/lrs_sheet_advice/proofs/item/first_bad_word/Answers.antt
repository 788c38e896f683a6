use Rattle.std.proofs.Common.{rules}
use Rattle.lrs_sheet_advice.proofs.ListWords.{bad_here, from_start, further}
use Rattle.lrs_sheet_records.proofs.Wording.{first-word}
use Rattle.lrs_sheet_advice.proofs.item.first_bad_word.Goals as goal

pub loop-place-init : goal.loop-place-init
loop-place-init c = from_start c.args.text.now

pub returns-then-not-is_item : goal.returns-then-not-is_item
returns-then-not-is_item c =
    let (more, cut) = first-word (λ rest. rest.now) c.cut_at.result.1 _ c.cut_at.result.0.now c.cut_at.ensures.last c.cut_at.ensures.more in
    bad_here c.args.of_pieces c.args.text.now c.loop-place.rest.now c.cut_at.result.0.now more c.loop-place.place c.is_item.result cut c.loop-place.invariant c.is_item.ensures (search rules)

pub loop-place-preserved : goal.loop-place-preserved
loop-place-preserved c =
    further c.args.text.now c.loop-place.rest.now c.cut_at.result.0.now c.in-Some.left.now c.loop-place.place (rw c.in-Some.is at c.cut_at.ensures.more) c.loop-place.invariant
