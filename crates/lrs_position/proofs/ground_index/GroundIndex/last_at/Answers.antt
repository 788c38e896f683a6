use Rattle.std.proofs.Common.{subst, ◌+◌}
use Rattle.lrs_position.specs.Index.Ground.{Stretches}
use Rattle.lrs_position.specs.Index.Stretches.{IsFirst, IsLast}
use Rattle.lrs_position.proofs.Index.Order.{first_from_none, first_from_other, last_found}
use Rattle.lrs_position.proofs.ground_index.GroundIndex.last_at.Goals as goal

pub returns-in_err-of-clause-none : goal.returns-in_err-of-clause-none
returns-in_err-of-clause-none c = rw c.from_residual.ensures (subst (λ (s : Stretches). IsFirst s c.args.link (c.args.mm + 1)) c.self.view_is
    (first_from_none c.self.inside.stretches c.args.link c.args.mm c.range.result (c.range.ensures.in_range tt) c.in_err-of.ensures.steps.0))

pub returns-then-of-link-clause-last : goal.returns-then-of-link-clause-last
returns-then-of-link-clause-last c = subst (λ (s : Stretches). IsLast s c.args.link (c.args.mm + 1) c.in_ok-of.field-0-0.now.1 c.in_ok-of.stretch.now) c.self.view_is
    (last_found c.self.inside.stretches c.args.link c.args.mm c.range.result c.next_back.new.self c.in_ok-of.field-0-0.now.0 c.in_ok-of.field-0-0.now.1 c.in_ok-of.stretch.now (c.range.ensures.in_range tt) c.in_ok-of.ensures.steps c.if-of-link.true)

pub returns-else-of-link-clause-none : goal.returns-else-of-link-clause-none
returns-else-of-link-clause-none c = subst (λ (s : Stretches). IsFirst s c.args.link (c.args.mm + 1)) c.self.view_is
    (first_from_other c.self.inside.stretches c.args.link c.args.mm c.range.result c.next_back.new.self c.in_ok-of.field-0-0.now.0 c.in_ok-of.field-0-0.now.1 c.in_ok-of.stretch.now (c.range.ensures.in_range tt) c.in_ok-of.ensures.steps c.if-of-link.false)
