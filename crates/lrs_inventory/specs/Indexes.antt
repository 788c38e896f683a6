-- The indexes of an image, and what is put into them and dropped.
use Rattle.std.specs.FinMap.{get}
use Rattle.std.specs.Prelude.{◌≡◌, ℕ, if◌then◌else◌, Option, Some, None}
use Rattle.std.specs.Option.{option_map}
use Rattle.lrs_inventory.specs.Prelude.{Name, Millimetre, course_of, runs_over, Stretches, IsGroundOf, Image, state_of}
use Rattle.lrs_position.specs.Index.Ground.{route_over, HasGained, AreWhole}
use Rattle.lrs_inventory.specs.declared.plan.GroundChange.{GroundChange}
use Rattle.lrs_inventory.specs.declared.plan.ReferentPlace.{ReferentPlace}
use Rattle.lrs_inventory.specs.declared.indexes.Indexes.{Indexes}
use Rattle.lrs_inventory.specs.Changes.{with_referent, IsNewReferent}
use Rattle.lrs_inventory.specs.Keys.{IsIndex, IsKeyPutIn, HaveSameKeys}
use Rattle.lrs_inventory.specs.Places.{IsPlaced}

-- The keys of an image, the ground of its routes and the places of its referents are indexed.
pub record IsIndexed (image : Image) (x : Indexes) : Type 0 where
  pub keys : IsIndex x.keys image.edits
  pub ground : IsGroundOf (λ e. e.route.name) (λ e. e.route.course) x.ground image.routes
  pub referents : IsPlaced x.referents (state_of image).referents

-- What is new is inserted, onto the same ground, and what is removed or passes is whole.
pub record IsReady (g : GroundChange) (old new : Stretches) : Type 0 where
  pub before : Stretches
  pub same : (m : Millimetre) → route_over before m ≡ route_over old m
  pub come : HasGained before new g.route g.come
  pub gone : AreWhole new g.gone
  pub passed : AreWhole new g.passed

abbrev pub IsReadyFor : Option GroundChange → Stretches → Stretches → Type 0
IsReadyFor None old new = (m : Millimetre) → route_over new m ≡ route_over old m
IsReadyFor (Some g) old new = IsReady g old new

abbrev pub AreWholeFor : Option GroundChange → Stretches → Type 0
AreWholeFor None ground = Unit {0}
AreWholeFor (Some g) ground = AreWhole ground g.gone × AreWhole ground g.passed

-- which route runs over a millimetre where what is removed was freed
abbrev pub freed_by : GroundChange → (Millimetre → Option Name) → Millimetre → Option Name
freed_by g on m = if runs_over (course_of g.gone) m then None else on m

-- ... and then what passes was handed over
abbrev pub made_by : GroundChange → (Millimetre → Option Name) → Millimetre → Option Name
made_by g on m = if runs_over (course_of g.passed) m then option_map (λ r. g.route) (freed_by g on m) else freed_by g on m

abbrev pub ground_made : Option GroundChange → (Millimetre → Option Name) → Millimetre → Option Name
ground_made None on m = on m
ground_made (Some g) on m = made_by g on m

-- What an edit inserts is in: its key, and ground and a referent that were not there.
pub record IsPutIn (key : Name) (place : ℕ) (change : Option GroundChange) (come : Option ReferentPlace) (old new : Indexes) : Type 0 where
  pub keys : IsKeyPutIn key place old.keys new.keys
  pub ground : IsReadyFor change old.ground new.ground
  pub new_referent : IsNewReferent come (get old.referents)
  pub referents : (name : Name) → get new.referents name ≡ with_referent come (get old.referents) name

-- The same is found in both.
pub record TellSame (old new : Indexes) : Type 0 where
  pub keys : HaveSameKeys old.keys new.keys
  pub ground : (m : Millimetre) → route_over new.ground m ≡ route_over old.ground m
  pub referents : (name : Name) → get new.referents name ≡ get old.referents name
