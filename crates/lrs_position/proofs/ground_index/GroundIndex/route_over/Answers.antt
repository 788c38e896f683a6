use Rattle.std.proofs.Common.{subst, sym, ◌∙◌}
use Rattle.lrs_position.specs.Index.Stretches.{AreApart}
use Rattle.lrs_position.proofs.Index.Over.{over_first, over_last, over_behind}
use Rattle.lrs_position.proofs.ground_index.GroundIndex.route_over.Goals as goal

pub returns-in_err-stretch : goal.returns-in_err-stretch
returns-in_err-stretch c = c.from_residual.ensures ∙ sym (over_first c.args.self.now c.args.link c.args.mm c.in_err-stretch.ensures.none)

pub returns-then-mm-stretch : goal.returns-then-mm-stretch
returns-then-mm-stretch c = sym (over_last c.args.self.now c.args.link c.args.mm c.in_ok-stretch.field-0-0 c.in_ok-stretch.stretch (subst AreApart c.self.view_is c.self.invariant) c.in_ok-stretch.ensures.last c.if-mm-stretch.true)

pub returns-else-mm-stretch : goal.returns-else-mm-stretch
returns-else-mm-stretch c = sym (over_behind c.args.self.now c.args.link c.args.mm c.in_ok-stretch.field-0-0 c.in_ok-stretch.stretch (subst AreApart c.self.view_is c.self.invariant) c.in_ok-stretch.ensures.last c.if-mm-stretch.false)
