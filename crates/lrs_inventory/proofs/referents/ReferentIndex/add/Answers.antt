use Rattle.std.proofs.Common.{ap, sym, subst, ◌∙◌, arith}
use Rattle.std.specs.Prelude.{is_some}
use Rattle.lrs_inventory.specs.Places.{Places, HaveCome}
use Rattle.lrs_inventory.proofs.Standing.{own, comes_off, comes_known, comes_new}
use Rattle.lrs_inventory.proofs.referents.ReferentIndex.add.Goals as goal

pub returns-then-len-referent : goal.returns-then-len-referent
returns-then-len-referent c = comes_off c.args.course.now c.args.referent c.args.self.now (omega (arith, c.len.ensures.len, c.if-len-referent.true))

pub returns-then-is_some : goal.returns-then-is_some
returns-then-is_some c =
    comes_known c.args.course.now c.args.referent c.args.self.now (ap is_some (sym c.find.ensures) ∙ sym c.is_some.ensures ∙ c.if-is_some.true)

pub returns : goal.returns
returns c =
    subst (λ (s : Places). HaveCome c.args.self.now s (own c.args.course.now c.args.referent)) (sym c.in_ok-insert.ensures.ok)
    (comes_new c.args.course.now c.args.referent c.args.self.now c.ground-ground.result c.ground-ground.ensures (ap is_some (sym c.find.ensures) ∙ sym c.is_some.ensures ∙ c.if-is_some.false))
