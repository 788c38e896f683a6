use Rattle.std.proofs.Common.{subst}
use Rattle.lrs_inventory.specs.Prelude.{EventStretch}
use Rattle.lrs_events.specs.RouteSpans.Search.{IsOver}
use Rattle.lrs_inventory.proofs.Located.{route_in}
use Rattle.lrs_inventory.proofs.FirstHolder.{first_holder_is}
use Rattle.lrs_inventory.proofs.inventory.Inventory.first_holder.Goals as goal

pub returns : goal.returns
returns c =
    let i = c.args.self.now in
    let r = c.args.route_row.now in
    first_holder_is i r c.prove_sound.ensures (route_in i r c.requires.known) c.args.class c.args.stretch.from c.args.stretch.to c.args.side c.requires.filled c.requires.within c.over.result
    (subst (λ (x : EventStretch). IsOver r.spans c.args.class x.from x.to c.args.side c.over.result) c.stretch.view_is c.over.ensures)
