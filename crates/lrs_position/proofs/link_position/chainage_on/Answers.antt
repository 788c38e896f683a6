use Rattle.std.proofs.Common.{◌∙◌, ap, sym, arith, length}
use Rattle.std.specs.Prelude.{List, position}
use Rattle.lrs_element.specs.declared.link.Ground.{Ground}
use Rattle.lrs_element.specs.Course.{is_at}
use Rattle.lrs_position.proofs.Entries.{walk_more, walk_found, walk_next, walk_inside}
use Rattle.lrs_position.proofs.link_position.chainage_on.Goals as goal

pub overflow_add-result : goal.overflow_add-result
overflow_add-result c =
    let b = walk_inside _ (c.args.link, c.args.mm) _ _ c.in-Some.place _ c.loop-piece-test.true c.loop-piece.invariant.start (sym c.in-Some.is ∙ c.place_in.ensures) in
    omega (arith, b, ap length c.pieces-piece-items.ensures.course)

pub returns-in-Some : goal.returns-in-Some
returns-in-Some c = walk_found _ (c.args.link, c.args.mm) _ _ c.in-Some.place _ c.loop-piece-test.true c.loop-piece.invariant (sym c.in-Some.is ∙ c.place_in.ensures) ∙ ap (λ (xs : List Ground). position (is_at (c.args.link, c.args.mm)) xs) c.pieces-piece-items.ensures.course

pub overflow_add-start : goal.overflow_add-start
overflow_add-start c =
    let b = walk_next _ _ _ _ _ c.loop-piece-test.true c.loop-piece.invariant.start c.from-start.ensures in
    omega (arith, b, ap length c.pieces-piece-items.ensures.course)

pub loop-piece-preserved : goal.loop-piece-preserved
loop-piece-preserved c = walk_more _ (c.args.link, c.args.mm) _ _ _ _ c.loop-piece-test.true c.loop-piece.invariant (sym c.in-None.is ∙ c.place_in.ensures) c.from-start.ensures
