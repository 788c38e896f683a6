-- The indexes of an image as it changes.
use Rattle.std.proofs.Common.{◌≡◌, ℕ, Bool, true, false, cond, List, length, Option, Some, None, refl, sym, ap, subst, ◌∙◌}
use Rattle.std.specs.FinMap.{get}
use Rattle.std.proofs.lemmas.Bool.{false≢true}
use Rattle.std.specs.Prelude.{◌||◌, is_some}
use Rattle.std.specs.List.{list_any}
use Rattle.std.specs.Option.{option_map}
use Rattle.lrs_inventory.specs.Prelude.{Name, same_name, Millimetre, course_of, runs_over, Stretches, Edit, Image, IsSound, state_of, with_difference}
use Rattle.lrs_position.specs.Index.Ground.{route_over}
use Rattle.lrs_image.specs.Change.{apply, CanMake}
use Rattle.lrs_inventory.specs.declared.plan.Plan.{Plan}
use Rattle.lrs_inventory.specs.declared.plan.GroundChange.{GroundChange}
use Rattle.lrs_inventory.specs.declared.plan.ReferentPlace.{ReferentPlace}
use Rattle.lrs_inventory.specs.declared.indexes.Indexes.{Indexes}
use Rattle.lrs_inventory.specs.declared.keys.KeyIndex.{KeyIndex}
use Rattle.lrs_inventory.specs.Keys.{IsIndex, HaveSameKeys}
use Rattle.lrs_inventory.specs.Changes.{route_on, ground_after, CanChange, CanChangeGround, without_referent, referents_after}
use Rattle.lrs_inventory.specs.Plans.{change_of, TellsGround}
use Rattle.lrs_inventory.specs.Inventory.{IsKnown}
use Rattle.lrs_inventory.specs.Indexes.{IsIndexed, IsReadyFor, AreWholeFor, made_by, ground_made, IsPutIn, TellSame}
use Rattle.lrs_inventory.proofs.Keyed.{IsIndex-push, IsIndex-same}
use Rattle.lrs_inventory.proofs.Standing.{referents_back, out_of}

-- Indexes that tell the same are those of the same image.
pub still_indexed : (i : Image) (old new : Indexes) → IsIndexed i old → TellSame old new → IsIndexed i new
still_indexed i old new x same = record {
  keys = IsIndex-same old.keys new.keys i.edits same.keys x.keys;
  ground = record { at = λ m. same.ground m ∙ x.ground.at m };
  referents = record { at = λ name. same.referents name ∙ x.referents.at name };
}

-- ---- where it fails

module _ (key : Name) (place : ℕ) (change : Option GroundChange) (come : Option ReferentPlace) (before now new : Indexes) (put : IsPutIn key place change come before now) where
  pub taken_out : HaveSameKeys before.keys new.keys → ((m : Millimetre) → route_over new.ground m ≡ route_over before.ground m) → ((name : Name) → get new.referents name ≡ without_referent come (get now.referents) name) → TellSame before new
  taken_out keys ground referents = record {
    keys = keys;
    ground = ground;
    referents = λ name.
        referents name
        ∙ ap (λ (stands : Name → Option Millimetre). without_referent come stands name) (λ j n. put.referents n j)
        ∙ referents_back come (get before.referents) name put.new_referent;
  }

-- ---- where it is done

pub are_whole : (change : Option GroundChange) (old new : Stretches) → IsReadyFor change old new → AreWholeFor change new
are_whole None old new r = tt
are_whole (Some g) old new r = (r.gone, r.passed)

module _ (g : GroundChange) (on : Millimetre → Option Name) (can : CanChange g on) (m : Millimetre) where
  abbrev came : Bool → Option Name → Option Name
  came b o = cond b (Some g.route) o

  abbrev went : Bool → Option Name → Option Name
  went b o = cond b None o

  abbrev handed : Bool → Option Name → Option Name
  handed b o = cond b (option_map (λ (r : Name). g.route) o) o

  cases : (c p w : Bool) (o : Option Name) → (c ≡ true → o ≡ None) → (p ≡ true → is_some o ≡ true) → (p ≡ true → w ≡ false) → (w ≡ true → is_some o ≡ true)
      → handed p (went w (came c o)) ≡ cond (c || p) (Some g.route) (went w o)
  cases true true w o free run apart gone = absurd (false≢true (sym (ap (λ (o : Option Name). is_some o) (free refl)) ∙ run refl))
  cases true false true o free run apart gone = absurd (false≢true (sym (ap (λ (o : Option Name). is_some o) (free refl)) ∙ gone refl))
  cases true false false o free run apart gone = refl
  cases false true true o free run apart gone = absurd (false≢true (sym (apart refl)))
  cases false true false None free run apart gone = absurd (false≢true (run refl))
  cases false true false (Some n) free run apart gone = refl
  cases false false w o free run apart gone = refl

  pub made_is : (f : Millimetre → Option Name) → f m ≡ cond (runs_over (course_of g.come) m) (Some g.route) (on m) → made_by g f m ≡ ground_after (Some g) on m
  made_is f is =
      ap (λ (o : Option Name). handed (runs_over (course_of g.passed) m) (went (runs_over (course_of g.gone) m) o)) is
      ∙ cases (runs_over (course_of g.come) m) (runs_over (course_of g.passed) m) (runs_over (course_of g.gone) m) (on m) (can.come m) (can.passed m) (can.apart m) (can.gone m)

ground_done : (change : Option GroundChange) (on : Millimetre → Option Name) → CanChangeGround change on → (old ready new : Stretches) → ((m : Millimetre) → route_over old m ≡ on m) → IsReadyFor change old ready
    → ((m : Millimetre) → route_over new m ≡ ground_made change (route_over ready) m) → (m : Millimetre) → route_over new m ≡ ground_after change on m
ground_done None on can old ready new at r done m = done m ∙ r m ∙ at m
ground_done (Some g) on can old ready new at r done m = done m ∙ made_is g on can m (route_over ready) (r.come.over m ∙ ap (cond (runs_over (course_of g.come) m) (Some g.route)) (r.same m ∙ at m))

module _ (i : Image) (p : Plan) (e : Edit) (old ready new : Indexes) (ix : IsIndexed i old) (tells : TellsGround p i) (put : IsPutIn e.key (length i.edits) p.ground p.referents.come old ready) where
  same_referents : (state_of (apply (change_of e p) i)).referents ≡ (state_of (with_difference p.difference i)).referents
  unfolding state_of
  same_referents = refl

  pub next_indexed : new.keys ≡ ready.keys → ((m : Millimetre) → route_over new.ground m ≡ ground_made p.ground (route_over ready.ground) m)
      → ((name : Name) → get new.referents name ≡ out_of p.referents.gone (get ready.referents) name) → IsIndexed (apply (change_of e p) i) new
  next_indexed keys ground referents = record {
    keys = subst (λ (s : KeyIndex). IsIndex s (apply (change_of e p) i).edits) (sym keys) (IsIndex-push i.edits e old.keys ready.keys ix.keys put.keys);
    ground = record { at = λ m. ground_done p.ground (route_on i.routes) tells.can_ground old.ground ready.ground new.ground ix.ground.at put.ground ground m ∙ sym (tells.ground m) };
    referents = record {
      at = λ name.
          referents name
          ∙ ap (λ (o : Option Millimetre). cond (list_any (same_name name) p.referents.gone) None o) (put.referents name)
          ∙ ap (λ (stands : Name → Option Millimetre). referents_after p.referents stands name) (λ j n. ix.referents.at n j)
          ∙ sym (tells.referents name) ∙ ap (λ (stands : Name → Option Millimetre). stands name) (sym same_referents);
    };
  }

-- What is known of an image before a change is known of the one after it, where the indexes were given what is new and rid of what is gone.
pub known_after : (i old_image next : Image) (p : Plan) (e : Edit) (old ready new : Indexes) (place : ℕ) (gone : List Name)
    → IsKnown i old → i ≡ old_image → CanMake (change_of e p) old_image → TellsGround p old_image → next ≡ apply (change_of e p) i
    → place ≡ length i.edits → IsPutIn e.key place p.ground p.referents.come old ready
    → new.keys ≡ ready.keys → ((m : Millimetre) → route_over new.ground m ≡ ground_made p.ground (route_over ready.ground) m)
    → gone ≡ p.referents.gone → ((name : Name) → get new.referents name ≡ out_of gone (get ready.referents) name) → IsKnown next new
known_after i old_image next p e old ready new place gone known seen can tells made at put keys ground gone_is referents = record {
  sound = subst IsSound (sym (made ∙ ap (apply (change_of e p)) seen)) can.sound;
  indexed = subst (λ (j : Image). IsIndexed j new) (sym made)
      (next_indexed i p e old ready new known.indexed (subst (TellsGround p) (sym seen) tells)
      (subst (λ (n : ℕ). IsPutIn e.key n p.ground p.referents.come old ready) at put) keys ground
      (subst (λ (names : List Name). (name : Name) → get new.referents name ≡ out_of names (get ready.referents) name) gone_is referents));
}
