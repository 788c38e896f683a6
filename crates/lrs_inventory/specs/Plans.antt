-- What the plan of a command says of the ground.
use Rattle.std.specs.Prelude.{⊤, ◌≡◌, ◌+◌, ◌≤◌, [], length, None, Result, Ok, Err}
use Rattle.lrs_inventory.specs.Prelude.{Name, Millimetre, Cause, Command, Edit, Image, state_of, attempt, IsSound, Makes, Difference, no_difference, with_difference, CanDiffer}
use Rattle.lrs_measure.specs.Limits.{most_edits}
use Rattle.lrs_image_laws.specs.CommandChanges.{HasRoomFor}
use Rattle.lrs_image.specs.declared.change.Change.{Change}
use Rattle.lrs_image.specs.Change.{CanMake}
use Rattle.lrs_inventory.specs.declared.plan.Plan.{Plan}
use Rattle.lrs_inventory.specs.declared.plan.Stop.{Stop}
use Rattle.lrs_inventory.specs.declared.plan.Stop.TheVariants.{Refused, Memory}
use Rattle.lrs_inventory.specs.Keys.{place_among}
use Rattle.lrs_inventory.specs.Changes.{route_on, ground_after, CanChangeGround, referents_after, IsNewReferent}

-- the plan that changes an image by this difference, and nothing of its ground and referents
abbrev pub plan_of : Difference → Plan
plan_of d = record { difference = d; ground = None; referents = record { come = None; gone = [] } }

-- the plan that changes nothing
abbrev pub no_plan : Plan
no_plan = plan_of no_difference

-- what is kept of a plan, by this edit
abbrev pub change_of : Edit → Plan → Change
change_of e p = record { edit = e; difference = p.difference }

-- The answer of a check, where memory does not run out.
abbrev pub Answers : {X : Type 0} → Result X Cause → Result X Stop → Type 0
Answers r (Ok x) = r ≡ Ok x
Answers r (Err (Refused c)) = r ≡ Err c
Answers r (Err Memory) = ⊤

-- The plan tells what becomes of the ground that routes run over, and of where referents stand.
pub record TellsGround (p : Plan) (i : Image) : Type 0 where
  pub ground : (m : Millimetre) → route_on (with_difference p.difference i).routes m ≡ ground_after p.ground (route_on i.routes) m
  pub can_ground : CanChangeGround p.ground (route_on i.routes)
  pub referents : (name : Name) → (state_of (with_difference p.difference i)).referents name ≡ referents_after p.referents (state_of i).referents name
  pub new_referent : IsNewReferent p.referents.come (state_of i).referents

-- The plan makes of an image what the command makes of the ground, and keeps its rows in order.
pub record IsPlanOf (command : Command) (i : Image) (p : Plan) : Type 0 where
  pub makes : Makes command i (with_difference p.difference i)
  pub differ : CanDiffer p.difference i
  pub tells : TellsGround p i

-- This plan makes what the command makes, or it is refused for this cause, or memory has run out.
abbrev pub Plans : Command → Image → Result Plan Stop → Type 0
Plans command i (Ok p) = IsPlanOf command i p
Plans command i (Err (Refused c)) = attempt (length i.edits + 1) command (state_of i) ≡ Err c
Plans command i (Err Memory) = ⊤

-- A plan can be made, by an edit under a new key, where there is room for the edit and for what the command needs.
abbrev pub PlansCanBeMade : Type 0
PlansCanBeMade = (command : Command) (i : Image) (p : Plan) (e : Edit) → IsSound i → IsPlanOf command i p → HasRoomFor command i → place_among i.edits e.key ≡ None → length i.edits + 1 ≤ most_edits
    → CanMake (change_of e p) i
