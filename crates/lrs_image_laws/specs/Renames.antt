-- What other marks or another name make of a route.
use Rattle.std.specs.Prelude.{◌≡◌, false, [], ◌∷◌}
use Rattle.std.specs.List.{list_any}
use Rattle.lrs_measure.specs.Lists.{In}
use Rattle.lrs_machine.specs.declared.command.Command.TheVariants as verb
use Rattle.lrs_machine.specs.declared.image.RouteRow.{RouteRow}
use Rattle.lrs_machine.specs.declared.image.Image.{Image}
use Rattle.lrs_machine.specs.Sound.{IsSound}
use Rattle.lrs_image_laws.specs.CommandChanges.{Makes}
use Rattle.lrs_image.specs.Change.{is_named}
use Rattle.lrs_image_laws.specs.Rewrites.{rewritten, with_routes}

-- the route has the same ground, referents and rows
pub record HasSame (r w : RouteRow) : Type 0 where
  pub course : w.route.course ≡ r.route.course
  pub refs : w.route.refs ≡ r.route.refs
  pub spans : w.spans ≡ r.spans

-- A route with other marks in the place of the one of its name is what its recalibration makes.
abbrev pub RecalibrateMakes : Type 0
RecalibrateMakes = (i : Image) (r w : RouteRow) → IsSound i → In r i.routes → HasSame r w → w.route.name ≡ r.route.name
    → Makes (verb.Recalibrate r.route.name w.route.marks) i (with_routes (rewritten (r.route.name ∷ []) (w ∷ []) i.routes) i)

-- A route under a new name in its place is what its renumbering makes.
abbrev pub RenumberMakes : Type 0
RenumberMakes = (i : Image) (r w : RouteRow) → IsSound i → In r i.routes → HasSame r w → w.route.marks ≡ r.route.marks → list_any (is_named w.route.name) i.routes ≡ false
    → Makes (verb.Renumber r.route.name w.route.name) i (with_routes (rewritten (r.route.name ∷ []) (w ∷ []) i.routes) i)
