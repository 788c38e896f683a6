use Rattle.std.proofs.Common.{◌≡◌, List, Option, subst}
use Rattle.lrs_inventory.specs.Prelude.{Name, Piece, Stretches}
use Rattle.lrs_position.specs.Index.Ground.{HasGained}
use Rattle.lrs_inventory.specs.declared.plan.GroundChange.{GroundChange}
use Rattle.lrs_inventory.specs.Indexes.{IsReadyFor}
use Rattle.lrs_inventory.proofs.Grounds.{out_again}
use Rattle.lrs_inventory.proofs.ground.take_out_added.Goals as goal

pub returns-in-Some : goal.returns-in-Some
returns-in-Some c = λ before ready.
    let now = c.args.ground.now in
    let new = c.remove_added.new.self in
    out_again c.in-Some.change before now new (subst (λ (g : Option GroundChange). IsReadyFor g before now) c.in-Some.is ready)
    (subst (λ (ps : List Piece). (before : Stretches) → (route : Name) → HasGained before now route ps → new ≡ before) c.as_slice.ensures c.remove_added.ensures)
