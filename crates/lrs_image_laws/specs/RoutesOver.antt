-- Which route runs over a millimetre where routes are dropped and written.
use Rattle.std.specs.Prelude.{◌≡◌, Bool, if◌then◌else◌, List, Option, None}
use Rattle.std.specs.List.{list_any}
use Rattle.std.specs.Option.{option_or}
use Rattle.lrs_measure.specs.Texts.{Name}
use Rattle.lrs_element.specs.Course.{Millimetre, runs_over}
use Rattle.lrs_position.specs.Index.Routes.{routes_over}
use Rattle.lrs_machine.specs.declared.image.RouteRow.{RouteRow}
use Rattle.lrs_machine.specs.declared.image.Image.{Image}
use Rattle.lrs_machine.specs.Sound.{IsSound}
use Rattle.lrs_image_laws.specs.Rewrites.{routes_named, rewritten, AreFit}

-- the name of the route that runs over a millimetre
abbrev pub runs_on : List RouteRow → Millimetre → Option Name
runs_on = routes_over (λ e. e.route.name) (λ e. e.route.course)

-- whether a route runs over it
abbrev pub is_run_by : Millimetre → RouteRow → Bool
is_run_by m e = runs_over e.route.course m

-- A route that is written runs where it runs; where none does, and one that is dropped did, none runs any more; and elsewhere it is as before.
abbrev pub RewritingMovesGround : Type 0
RewritingMovesGround = (i : Image) (dropped : List Name) (written : List RouteRow) → IsSound i → AreFit i dropped written
    → (m : Millimetre) → runs_on (rewritten dropped written i.routes) m ≡ option_or (runs_on written m) (if list_any (is_run_by m) (routes_named dropped i.routes) then None else runs_on i.routes m)
