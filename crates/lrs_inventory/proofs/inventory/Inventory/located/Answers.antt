use Rattle.std.proofs.Common.{Err, subst, sym, ap, ◌∙◌}
use Rattle.std.specs.Prelude.{IsTrue}
use Rattle.lrs_inventory.specs.Prelude.{alignment_of, state_of}
use Rattle.lrs_position.specs.declared.expression.Expr.{Expr}
use Rattle.lrs_position.specs.Expressions.{is_entered}
use Rattle.lrs_machine.specs.Machine.{located_chainage}
use Rattle.lrs_inventory.specs.RouteStretches.{IsLocatedAt}
use Rattle.lrs_inventory.proofs.Located.{located_alike, refused_alike}
use Rattle.lrs_inventory.proofs.inventory.Inventory.located.Goals as goal

pub returns-in-Ok-clause-answer : goal.returns-in-Ok-clause-answer
returns-in-Ok-clause-answer c =
    let i = c.args.self.now in
    let r = c.args.route_row.now in
    let e = c.expression.result in
    let entered = subst (λ (e : Expr). IsTrue (is_entered e)) (sym c.expression.ensures.expression) c.expression.ensures.entered in
    subst (λ (e : Expr). IsLocatedAt (state_of i) (alignment_of r.route) e c.in-Ok.chainage) c.expression.ensures.expression
    (located_alike i r e c.prove_sound.ensures c.requires.known entered c.locate.ensures.number c.in-Ok.chainage
    c.in-Ok.ensures.answer c.in-Ok.ensures.on_route)

pub returns-in-Err-clause-answer : goal.returns-in-Err-clause-answer
returns-in-Err-clause-answer c =
    let i = c.args.self.now in
    let r = c.args.route_row.now in
    let e = c.expression.result in
    let entered = subst (λ (e : Expr). IsTrue (is_entered e)) (sym c.expression.ensures.expression) c.expression.ensures.entered in
    ap (λ (e : Expr). located_chainage (state_of i) (alignment_of r.route) e) (sym c.expression.ensures.expression)
    ∙ refused_alike i r e c.prove_sound.ensures c.requires.known entered c.locate.ensures.number c.in-Err.fault c.in-Err.ensures.answer
    ∙ ap Err (sym c.cause_of.ensures)
