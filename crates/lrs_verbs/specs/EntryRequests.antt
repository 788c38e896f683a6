-- What an entry asks for: a stretch of a route, for an asset of a class of a kind.
use Rattle.std.specs.Prelude.{Bool, ◌≡◌, ◌<◌, ◌&&◌, not, length, Ok, Err}
use Rattle.lrs_inventory.specs.Prelude.{Kind, places_on, NewAsset, Image, RouteRow, state_of, EventStretch, part_of}
use Rattle.lrs_machine.specs.Segments.{is_exclusive}
use Rattle.lrs_machine.specs.Machine.{wanted_of}
use Rattle.lrs_inventory.specs.declared.plan.Stop.{Stop}
use Rattle.lrs_verbs.specs.Entries.{HasBegun}
use Rattle.lrs_inventory.specs.RouteStretches.{EndsBy}
use Rattle.lrs_inventory.specs.Plans.{Answers}

-- whether a kind is left out where only exclusive classes are taken
abbrev pub is_left_out : Bool → Kind → Bool
is_left_out only_exclusive kind = only_exclusive && not (is_exclusive kind)

-- The checks of an entry have passed: it wants the places of a stretch of a route, for an asset of a class of this kind.
pub record IsWanted (i : Image) (only_exclusive : Bool) (e : NewAsset) (kind : Kind) (r : RouteRow) (x : EventStretch) : Type 0 where
  pub begun : HasBegun i e kind r
  pub filled : x.from < x.to
  pub within : EndsBy (length r.route.course) x
  pub wanted : wanted_of (is_left_out only_exclusive) e (state_of i) ≡ Ok (record { kind = kind; places = places_on e.side (part_of r.route.course x) })

-- ... or the entry is refused, unless memory has run out
abbrev pub IsRefused : Image → Bool → NewAsset → Stop → Type 0
IsRefused i only_exclusive e why = Answers (wanted_of (is_left_out only_exclusive) e (state_of i)) (Err why)
