use Rattle.std.proofs.Common.{◌≡◌, List, false, ap, subst, ◌∙◌}
use Rattle.lrs_inventory.specs.Prelude.{Piece, course_of, meets}
use Rattle.lrs_position.specs.Index.Ground.{is_shared, HasGained, AreWhole}
use Rattle.lrs_inventory.proofs.Grounds.{come_free, ready}
use Rattle.lrs_inventory.proofs.ground.cut_and_add_one.Goals as goal

pub add_all-requires-clause-free : goal.add_all-requires-clause-free
add_all-requires-clause-free c =
    let cut = c.cut_at-2.new.self in
    ap (λ (ps : List Piece). is_shared cut (course_of ps)) c.as_slice-3.ensures
    ∙ come_free c.args.change.now c.args.ground.now c.requires.can cut (λ m. c.cut_at-2.ensures.same m ∙ c.cut_at.ensures.same m)

pub returns-clause-ok : goal.returns-clause-ok
returns-clause-ok c =
    let g = c.args.change.now in
    let first = c.cut_at.new.self in
    let cut = c.cut_at-2.new.self in
    let new = c.add_all.new.self in
    ready g c.args.ground.now c.requires.can first cut new c.cut_at.ensures.same (subst (AreWhole first) c.as_slice.ensures c.in_ok-cut_at.ensures.whole) c.cut_at-2.ensures.same c.cut_at-2.ensures.others
    (subst (AreWhole cut) c.as_slice-2.ensures c.in_ok-cut_at-2.ensures.whole) (subst (HasGained cut new g.route) c.as_slice-3.ensures c.in_ok-add_all.ensures.ok)
    (subst (λ (ps : List Piece). (others : List Piece) → meets (course_of others) (course_of ps) ≡ false → AreWhole cut others → AreWhole new others) c.as_slice-3.ensures c.in_ok-add_all.ensures.whole)
