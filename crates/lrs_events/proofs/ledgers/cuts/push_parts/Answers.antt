use Rattle.std.proofs.Common.{arith}
use Rattle.lrs_element.proofs.Walking.{starts_in_order}
use Rattle.lrs_events.proofs.Ledger.Walked.{walk_start, walk_step, walk_end}
use Rattle.lrs_events.proofs.ledgers.cuts.push_parts.Goals as goal

pub starts_up_to-requires : goal.starts_up_to-requires
starts_up_to-requires c = starts_in_order _ _ c.requires.starts

pub starts_up_to-end-requires : goal.starts_up_to-end-requires
starts_up_to-end-requires c = starts_in_order _ _ c.requires.starts

pub loop-i-init : goal.loop-i-init
loop-i-init c = walk_start c.args.edit c.args.run c.args.side _ _ c.args.starts.now c.starts_up_to.result _ c.requires.starts c.starts_up_to.ensures.bound c.starts_up_to.ensures.up_to c.saturating_sub-first.ensures

pub loop-i-preserved : goal.loop-i-preserved
loop-i-preserved c = walk_step c.args.edit c.args.run c.args.side _ _ _ _ c.loop-i.i _ _ (omega (arith, c.requires.starts.count, c.starts_up_to-end.ensures.bound)) (c.requires.starts.start c.loop-i.i (omega (arith, c.requires.starts.count, c.starts_up_to-end.ensures.bound))) c.loop-i.invariant c.in_ok-push_part.ensures

pub returns : goal.returns
returns c = walk_end c.args.edit c.args.run c.args.side _ _ _ c.args.starts.now c.loop-i.i c.starts_up_to-end.result _ c.requires.starts c.loop-i-test.false c.starts_up_to-end.ensures.behind c.saturating_sub.ensures c.loop-i.invariant
