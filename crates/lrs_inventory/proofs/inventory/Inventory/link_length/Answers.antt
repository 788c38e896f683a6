use denote.Bor.{Bor}
use Rattle.std.proofs.Common.{ap, sym, ◌∙◌, Some, None}
use Rattle.std.specs.Option.{option_map}
use Rattle.lrs_inventory.specs.Prelude.{Link, image_of}
use Rattle.lrs_image.proofs.Tables.{links_in_order}
use Rattle.lrs_inventory.proofs.Known.{link_of}
use Rattle.lrs_inventory.proofs.inventory.Inventory.link_length.Goals as goal

pub find-requires : goal.find-requires
find-requires c = record { order = links_in_order (image_of c.self.inside.kept) c.self.invariant.sound }

pub returns-in-Some : goal.returns-in-Some
returns-in-Some c =
    link_of (image_of c.self.inside.kept) c.args.self.now c.self.view_is c.args.number (Some c.in-Some.link.now) (ap (option_map (λ (row : Bor Link). row.now)) (sym c.in-Some.is) ∙ c.find.ensures)

pub returns-in-None : goal.returns-in-None
returns-in-None c = link_of (image_of c.self.inside.kept) c.args.self.now c.self.view_is c.args.number None (ap (option_map (λ (row : Bor Link). row.now)) (sym c.in-None.is) ∙ c.find.ensures)
