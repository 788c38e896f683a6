use Rattle.lrs_position.proofs.Index.Cutting.{stays_whole, parts_both, whole_cut, cut_parts}
use Rattle.lrs_position.proofs.ground_index.GroundIndex.cut_piece.Goals as goal

pub returns-in_err-cut-clause-others : goal.returns-in_err-cut-clause-others
returns-in_err-cut-clause-others c = stays_whole c.args.self.now c.cut.new.self c.cut.ensures.parts

pub returns-in_err-cut-2-clause-others : goal.returns-in_err-cut-2-clause-others
returns-in_err-cut-2-clause-others c = stays_whole c.args.self.now c.cut-2.new.self (parts_both c.args.self.now c.cut.new.self c.cut-2.new.self c.cut.ensures.parts c.cut-2.ensures.parts)

pub returns-clause-whole : goal.returns-clause-whole
returns-clause-whole c = whole_cut c.cut-2.new.self c.args.piece.now
    (cut_parts c.cut.new.self c.cut-2.new.self c.args.piece.now.link c.args.piece.now.from c.cut-2.ensures.parts c.in_ok-cut.ensures.cut)
    c.in_ok-cut-2.ensures.cut

pub returns-clause-others : goal.returns-clause-others
returns-clause-others c = stays_whole c.args.self.now c.cut-2.new.self (parts_both c.args.self.now c.cut.new.self c.cut-2.new.self c.cut.ensures.parts c.cut-2.ensures.parts)
