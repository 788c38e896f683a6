use denote.Bor.{Bor}
use Rattle.std.proofs.Common.{◌≡◌, Option, Some, None, refl, ◌∙◌}
use Rattle.std.specs.Option.{option_map}
use Rattle.lrs_inventory.specs.Prelude.{RouteRow, route_entry, image_of}
use Rattle.lrs_image.proofs.Tables.{routes_in_order}
use Rattle.lrs_inventory.proofs.Known.{row_of, route_of}
use Rattle.lrs_inventory.proofs.inventory.Inventory.route.Goals as goal

pub find-requires : goal.find-requires
find-requires c = record { order = routes_in_order (image_of c.self.inside.kept) c.self.invariant.sound }

pub returns-clause-row : goal.returns-clause-row
returns-clause-row c = row_of (image_of c.self.inside.kept) c.args.self.now c.self.view_is c.args.name.now (option_map (λ (row : Bor RouteRow). row.now) c.find.result) c.find.ensures

both : (o : Option (Bor RouteRow)) → option_map (λ (row : Bor RouteRow). route_entry row.now) o ≡ option_map route_entry (option_map (λ (row : Bor RouteRow). row.now) o)
both None = refl
both (Some row) = refl

pub returns-clause-route : goal.returns-clause-route
returns-clause-route c =
    both c.find.result ∙ route_of (image_of c.self.inside.kept) c.args.self.now c.self.view_is c.args.name.now (option_map (λ (row : Bor RouteRow). row.now) c.find.result) c.find.ensures
