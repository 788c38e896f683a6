-- What the rows of routes hold, as parts made route by route.
use Rattle.std.specs.Prelude.{◌≡◌, ℕ, true, not, List}
use Rattle.std.specs.List.{list_all}
use Rattle.lrs_measure.specs.Lists.{each_two}
use Rattle.lrs_element.specs.declared.link.Ground.{Ground}
use Rattle.lrs_element.specs.Course.{meets}
use Rattle.lrs_events.specs.declared.span.Span.{Span}
use Rattle.lrs_events.specs.declared.part.Part.{Part}
use Rattle.lrs_events.specs.Places.{Place}
use Rattle.lrs_events.specs.Spans.{holds_by_spans, are_rows}
use Rattle.lrs_events.specs.Places.{differs}
use Rattle.lrs_machine.specs.Sound.{RouteSpans, holds_in, has_asset_place}
use Rattle.lrs_events.specs.Parts.{IsHadOnce}

-- what the tests of courses and of rows say of routes
pub record AreRoutes (routes : List RouteSpans) : Type 0 where
  pub once : list_all (λ s. each_two differs s.course) routes ≡ true
  pub apart : each_two (λ s t. not (meets s.course t.course)) routes ≡ true
  pub rows : list_all (λ s. are_rows s.rows) routes ≡ true

-- the parts are what the rows of one route hold, each pair once where the course has each millimetre once
pub record AreOfRoute (course : List Ground) (rows : List Span) (parts : List Part) : Type 0 where
  pub once : each_two differs course ≡ true → IsHadOnce parts
  pub shows : (asset : ℕ) (p : Place) → has_asset_place parts asset p ≡ holds_by_spans course rows asset p

-- ... and of all routes
pub record AreOfRoutes (routes : List RouteSpans) (parts : List Part) : Type 0 where
  pub once : AreRoutes routes → IsHadOnce parts
  pub shows : (asset : ℕ) (p : Place) → has_asset_place parts asset p ≡ holds_in routes asset p
