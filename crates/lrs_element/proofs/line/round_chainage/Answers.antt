use Rattle.lrs_element.specs.Line.{chainage_of}
use Rattle.lrs_element.proofs.LineLemmas.{IsOutside-none, IsOutside-below, AreRound-from}
use Rattle.lrs_element.proofs.line.round_chainage.Goals as goal

pub returns-in-None : goal.returns-in-None
returns-in-None c = IsOutside-none chainage_of c.args.marks.now c.args.n c.args.d _ c.requires.marks c.chainages_below-at.ensures c.in-None.ensures

pub returns-then-n-p : goal.returns-then-n-p
returns-then-n-p c = IsOutside-below chainage_of c.args.marks.now c.args.n c.args.d _ _ _ c.requires.marks c.chainages_below-at.ensures c.in-Some.ensures c.if-n-p.true

pub returns-else-n-p : goal.returns-else-n-p
returns-else-n-p c = AreRound-from chainage_of (λ p q h. h.chainage) c.args.marks.now c.args.n c.args.d _ _ _ c.requires.marks c.requires.short c.chainages_below-at.ensures c.in-Some.ensures c.if-n-p.false
