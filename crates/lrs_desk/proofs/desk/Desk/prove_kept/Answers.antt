use Rattle.std.proofs.Common.{◌≡◌, refl, subst}
use Rattle.lrs_desk.specs.Desk.{FindsImage, KeepsImage}
use Rattle.lrs_desk.specs.DeskView.{DeskView}
use Rattle.lrs_desk.proofs.Grouping.{held}
use Rattle.lrs_desk.proofs.desk.Desk.prove_kept.Goals as goal

pub returns : goal.returns
returns g c =
    let h = g.K.Holder in
    let k = c.self.invariant in
    let d = c.self.inside in
    record {
      kept = subst (λ (v : DeskView g.row.K.Denot). KeepsImage h.may_hold v) c.self.view_is k.kept;
      found = subst (λ (v : DeskView g.row.K.Denot). FindsImage h.may_hold h.is_clean v) c.self.view_is
          (λ shut clean. held (h.may_hold d.keeper) d.inventory (k.kept shut) (g.met.K.Keeper.finds d.keeper clean (k.reached shut clean)));
      failures = subst (λ (v : DeskView g.row.K.Denot). v.failures ≡ h.failures v.keeper) c.self.view_is refl;
    }
