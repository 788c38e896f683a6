-- Held parts, and what they say of the tests of soundness.
use Rattle.std.specs.Prelude.{◌≡◌, ◌↔◌, ℕ, true, List, ◌++◌}
use Rattle.std.specs.List.{AllByRecursion, list_all}
use Rattle.lrs_measure.specs.Lists.{each_two}
use Rattle.lrs_element.specs.declared.link.Link.{Link}
use Rattle.lrs_events.specs.declared.class.Asset.{Asset}
use Rattle.lrs_events.specs.declared.part.Part.{Part}
use Rattle.lrs_events.specs.Places.{Place}
use Rattle.lrs_machine.specs.Sound.{RouteSpans, holds_in, has_asset_place, is_part, share_nothing, are_balanced}
use Rattle.lrs_image_sound.specs.SweptParts.{IsFilled}
use Rattle.lrs_events.specs.Parts.{IsHadOnce}
use Rattle.lrs_image_sound.specs.Pairs.{AreHadAlike}

-- the parts are what the rows of the routes hold, each pair once
pub record AreHeld (links : List Link) (assets : List Asset) (routes : List RouteSpans) (held : List Part) : Type 0 where
  pub inside : list_all (is_part links assets) held ≡ true
  pub once : IsHadOnce held
  pub shows : (asset : ℕ) (p : Place) → holds_in routes asset p ≡ has_asset_place held asset p

-- what the tests before have shown of the rows of a ledger
pub record IsLedger (links : List Link) (assets : List Asset) (parts : List Part) : Type 0 where
  pub inside : list_all (is_part links assets) parts ≡ true
  pub apart : each_two share_nothing parts ≡ true

abbrev pub ApartIsOnce : Type 0
ApartIsOnce = (parts : List Part) → AllByRecursion IsFilled parts → (each_two share_nothing parts ≡ true) ↔ IsHadOnce parts

abbrev pub BalancedIsAlike : Type 0
BalancedIsAlike = (links : List Link) (assets : List Asset) (routes : List RouteSpans) (held entered gone : List Part)
    → AreHeld links assets routes held → IsLedger links assets entered → IsLedger links assets gone
    → (are_balanced links assets routes entered gone ≡ true) ↔ AreHadAlike (held ++ gone) entered
