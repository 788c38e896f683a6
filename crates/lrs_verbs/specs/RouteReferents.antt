-- What changes where the referents of one route change, and nothing else.
use Rattle.std.specs.Prelude.{[], ◌∷◌, Some, None}
use Rattle.lrs_inventory.specs.Prelude.{Name, Millimetre, Referent, RouteChange, Difference, no_difference, no_keys}
use Rattle.lrs_image.specs.declared.change.ReferentChange.{ReferentChange}
use Rattle.lrs_inventory.specs.declared.plan.Plan.{Plan}
use Rattle.lrs_inventory.specs.declared.plan.ReferentPlaces.{ReferentPlaces}
use Rattle.lrs_inventory.specs.Plans.{plan_of}

-- the route keeps its name, its course, its marks and its rows
abbrev pub change_of_referents : Name → ReferentChange → RouteChange
change_of_referents route refs = record { route = route; name = route; keys = no_keys; course = None; marks = None; refs = refs; spans_gone = []; spans_come = [] }

abbrev pub difference_of_referents : Name → ReferentChange → Difference
difference_of_referents route refs = record no_difference { changed = Some (change_of_referents route refs) }

-- The plan by which referents of this route change, and where they then stand.
abbrev pub plan_of_referents : Name → ReferentChange → ReferentPlaces → Plan
plan_of_referents route refs places = record (plan_of (difference_of_referents route refs)) { referents = places }

-- the referent of this name goes
abbrev pub without_one : Name → ReferentChange
without_one name = record { gone = name ∷ []; come = [] }

abbrev pub nowhere : Name → ReferentPlaces
nowhere name = record { come = None; gone = name ∷ [] }

-- this referent comes
abbrev pub with_one : Referent → ReferentChange
with_one r = record { gone = []; come = r ∷ [] }

abbrev pub standing_at : Name → Millimetre → ReferentPlaces
standing_at name place = record { come = Some (record { name = name; link = place.0; mm = place.1 }); gone = [] }
