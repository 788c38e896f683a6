use Rattle.std.proofs.Common.{◌∙◌}
use Rattle.std.proofs.lemmas.Bool.{le-ltb}
use Rattle.lrs_element.proofs.Apart.{covers_some, covers_none}
use Rattle.lrs_element.proofs.course.Course.covers.Goals as goal

pub returns-then-piece : goal.returns-then-piece
returns-then-piece c = covers_some c.args.piece c.self.inside.pieces.items c.args.self.now c.one_meets.result c.if-piece.true c.self.invariant.fewest.filled c.self.view_is (rw c.deref.ensures.value at c.one_meets.ensures)

pub returns-else-piece : goal.returns-else-piece
returns-else-piece c = le-ltb _ _ c.if-piece.false ∙ covers_none c.args.piece c.args.self.now c.if-piece.false
