-- Where referents stand, and how a plan changes it.
use Rattle.std.specs.FinMap.{FinMap, get, find}
use Rattle.std.specs.Prelude.{◌≡◌, List, Option}
use Rattle.std.specs.List.{flat_map}
use Rattle.std.specs.Option.{option_or}
use Rattle.lrs_inventory.specs.Prelude.{Name, name_cmp, Millimetre, RouteRow, referents_on}

-- a ground millimetre for each of some names
abbrev pub Places : Type 0
Places = FinMap name_cmp Millimetre

-- where the referent of a name stands, among those of the routes
abbrev pub referent_among : List RouteRow → Name → Option Millimetre
referent_among routes name = find name_cmp name (flat_map referents_on routes)

-- Each referent is found where it stands, and no other is found.
pub record IsPlaced (places : Places) (stands : Name → Option Millimetre) : Type 0 where
  pub at : (name : Name) → get places name ≡ stands name

-- These have come, without those of known names.
pub record HaveCome (old new : Places) (referents : List (Name × Millimetre)) : Type 0 where
  pub at : (name : Name) → get new name ≡ option_or (get old name) (find name_cmp name referents)
