use Rattle.lrs_element.specs.Line.{measure_of}
use Rattle.lrs_element.proofs.LineLemmas.{IsOutside-none, IsOutside-below, AreRound-from}
use Rattle.lrs_element.proofs.line.round_measure.Goals as goal

pub returns-in-None : goal.returns-in-None
returns-in-None c = IsOutside-none measure_of c.args.marks.now c.args.n c.args.d _ c.requires.marks c.measures_below-at.ensures c.in-None.ensures

pub returns-then-n-p : goal.returns-then-n-p
returns-then-n-p c = IsOutside-below measure_of c.args.marks.now c.args.n c.args.d _ _ _ c.requires.marks c.measures_below-at.ensures c.in-Some.ensures c.if-n-p.true

pub returns-else-n-p : goal.returns-else-n-p
returns-else-n-p c = AreRound-from measure_of (λ p q h. h.measure) c.args.marks.now c.args.n c.args.d _ _ _ c.requires.marks c.requires.short c.measures_below-at.ensures c.in-Some.ensures c.if-n-p.false
