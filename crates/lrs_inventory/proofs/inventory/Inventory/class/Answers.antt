use denote.Bor.{Bor}
use Rattle.std.proofs.Common.{ap, sym, ◌∙◌, Some, None}
use Rattle.std.specs.Option.{option_map}
use Rattle.lrs_inventory.specs.Prelude.{image_of}
use Rattle.lrs_events.specs.declared.class.Class.{Class}
use Rattle.lrs_image.proofs.Tables.{classes_in_order}
use Rattle.lrs_inventory.proofs.Known.{class_of}
use Rattle.lrs_inventory.proofs.inventory.Inventory.class.Goals as goal

pub find-requires : goal.find-requires
find-requires c = record { order = classes_in_order (image_of c.self.inside.kept) c.self.invariant.sound }

pub returns-in-Some : goal.returns-in-Some
returns-in-Some c =
    class_of (image_of c.self.inside.kept) c.args.self.now c.self.view_is c.args.name.now (Some c.in-Some.class.now) (ap (option_map (λ (row : Bor Class). row.now)) (sym c.in-Some.is) ∙ c.find.ensures)

pub returns-in-None : goal.returns-in-None
returns-in-None c = class_of (image_of c.self.inside.kept) c.args.self.now c.self.view_is c.args.name.now None (ap (option_map (λ (row : Bor Class). row.now)) (sym c.in-None.is) ∙ c.find.ensures)
