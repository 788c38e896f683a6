-- Parts under the class in place of the asset, where the class is exclusive.
use Rattle.std.specs.Prelude.{◌≡◌, ◌↔◌, ℕ, Bool, true, false, ◌&&◌, nat_eq, List, Option, Some, None, slice_get}
use Rattle.std.specs.List.{AllByRecursion, list_any, list_all, count_by}
use Rattle.lrs_measure.specs.Lists.{each_two}
use Rattle.lrs_measure.specs.Texts.{Name, same_name}
use Rattle.lrs_element.specs.declared.link.Link.{Link}
use Rattle.lrs_events.specs.declared.class.Class.{Class}
use Rattle.lrs_events.specs.declared.class.Asset.{Asset}
use Rattle.lrs_events.specs.declared.part.Part.{Part}
use Rattle.lrs_events.specs.Places.{Place}
use Rattle.lrs_events.specs.Parts.{has_place}
use Rattle.lrs_machine.specs.Segments.{is_exclusive}
use Rattle.lrs_machine.specs.Sound.{RouteSpans, share_nothing, asset_before, keeps_exclusive}
use Rattle.lrs_image_sound.specs.SweptParts.{IsFilled}
use Rattle.lrs_events.specs.Parts.{times_had}
use Rattle.lrs_image_sound.specs.Balance.{AreHeld}

-- whether a class is exclusive and the asset is of it
abbrev pub excludes : List Asset → Option Class → ℕ → Bool
excludes assets None asset = false
excludes assets (Some c) asset = is_exclusive c.kind && list_any (λ a. nat_eq a.number asset && same_name a.class c.name) assets

-- ... the class at this place
abbrev pub is_of_exclusive : List Asset → List Class → ℕ → ℕ → Bool
is_of_exclusive assets classes k asset = excludes assets (slice_get classes k) asset

-- the parts keyed by the places of their exclusive classes
pub record AreKeyed (assets : List Asset) (classes : List Class) (held keyed : List Part) : Type 0 where
  pub filled : AllByRecursion IsFilled keyed
  pub counts : (k : ℕ) (p : Place) → times_had k p keyed ≡ count_by (λ x. is_of_exclusive assets classes k x.asset && has_place x p) held

abbrev pub ExclusiveIsApart : Type 0
ExclusiveIsApart = (links : List Link) (classes : List Class) (assets : List Asset) (routes : List RouteSpans) (held keyed : List Part)
    → each_two asset_before assets ≡ true → AreHeld links assets routes held → AreKeyed assets classes held keyed
    → (list_all (keeps_exclusive links assets routes) classes ≡ true) ↔ (each_two share_nothing keyed ≡ true)

abbrev pub is_name : Option Name → Name → Bool
is_name None class = false
is_name (Some name) class = same_name name class

abbrev pub is_place : Option ℕ → ℕ → Bool
is_place None k = false
is_place (Some i) k = nat_eq i k

abbrev pub is_exclusive_at : Option Class → Name → Bool
is_exclusive_at None name = false
is_exclusive_at (Some c) name = is_exclusive c.kind && same_name name c.name
