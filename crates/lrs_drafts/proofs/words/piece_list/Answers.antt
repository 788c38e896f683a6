use Rattle.std.proofs.Common.{rules}
use Rattle.lrs_sheet_records.proofs.Wording.{all-taken, more-taken, start-taken}
use Rattle.lrs_sheet_records.specs.Words.{IsPieceText}
use Rattle.lrs_drafts.proofs.words.piece_list.Goals as goal

pub loop-turn-init : goal.loop-turn-init
loop-turn-init c = start-taken IsPieceText c.args.text.now _ (search rules)

pub returns-in-None : goal.returns-in-None
returns-in-None c =
    all-taken IsPieceText c.args.text.now c.loop-turn.rest.now c.cut_at.result.0.now c.loop-turn.list.items c.push.new.self.items c.in-Some.piece c.loop-turn._turn c.loop-turn.invariant c.in_ok-push.ensures.items (rw c.in-None.is at c.cut_at.ensures.last) c.in-Some.ensures.some

pub loop-turn-preserved : goal.loop-turn-preserved
loop-turn-preserved c =
    more-taken IsPieceText c.args.text.now c.loop-turn.rest.now c.in-Some-behind.text.now c.cut_at.result.0.now c.loop-turn.list.items c.push.new.self.items c.in-Some.piece c.loop-turn._turn c.loop-turn.invariant c.in_ok-push.ensures.items (rw c.in-Some-behind.is at c.cut_at.ensures.more) c.in-Some.ensures.some
