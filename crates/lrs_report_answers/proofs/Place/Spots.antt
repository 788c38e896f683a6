-- The place of a spot is a chainage of a route of the image.
use Rattle.std.proofs.Common.{◌≡◌, ℕ, ◌-◌, ◌/◌, ◌≤◌, min, Bool, true, false, cond, length, Option, Some, None, Result, Ok, Err, refl, sym, ap, subst, ◌∙◌, arith}
use Rattle.std.specs.Prelude.{MatchResult, nat_eq, nat_lt}
use Rattle.std.specs.List.{find}
use Rattle.std.specs.Option.{option_map, option_map_or, option_and_then, ok_or}
use Rattle.std.proofs.lemmas.Bool.{ltb-false}
use Rattle.lrs_measure.specs.Texts.{Name}
use Rattle.lrs_element.specs.declared.link.Link.{Link}
use Rattle.lrs_element.specs.Course.{Millimetre, chainage_on, is_at, runs_over}
use Rattle.lrs_position.proofs.Entries.{position_below}
use Rattle.lrs_machine.specs.declared.image.Image.{Image}
use Rattle.lrs_machine.specs.declared.image.RouteRow.{RouteRow}
use Rattle.lrs_machine.specs.Sound.{IsSound}
use Rattle.lrs_image.specs.Change.{is_named}
use Rattle.lrs_report_answers.specs.Answers.{IsRouteIn}
use Rattle.lrs_machine.specs.declared.absence.Missing.{Missing}
use Rattle.lrs_machine.specs.declared.absence.Missing.TheVariants as missing
use Rattle.lrs_machine.specs.declared.question.AskedPlace.{AskedPlace}
use Rattle.lrs_machine.specs.declared.question.AskedPlace.TheVariants.{OnRoute, OnLink}
use Rattle.lrs_report_answers.specs.Place.Places.{Spot, in_cell, spot_at, spot_on_route, place_within, place_over, place_along, place_on_link, unless_missing, place_of}
use Rattle.lrs_machine.specs.declared.question.Place.{Place}
use Rattle.lrs_machine.specs.declared.question.Place.TheVariants.{Chainage, Position}
use Rattle.lrs_position.specs.declared.location.PlaceFault.{PlaceFault}
use Rattle.lrs_position.specs.Locations.{cell, located_or_fault}
use Rattle.lrs_position.specs.Translations.{alignment_of, referent_at}
use Rattle.lrs_report_answers.specs.declared.fault.AskFault.{AskFault}
use Rattle.lrs_report_answers.specs.declared.fault.AskFault.TheVariants as asked
use Rattle.lrs_report_answers.proofs.Place.Names.{is_route_in}

-- a chainage of a route of the image
pub record IsPlaceIn (i : Image) (p : Spot) : Type 0 where
  pub known : IsRouteIn i p.0
  pub on_route : p.1 ≤ length p.0.route.course

ok_is : (p q : Spot) → ◌≡◌ {A = Result Spot Missing} (Ok p) (Ok q) → p ≡ q
ok_is p q h = cc

asked_ok : (p q : Spot) → ◌≡◌ {A = Result Spot AskFault} (Ok p) (Ok q) → p ≡ q
asked_ok p q h = cc

same_fault : (f g : PlaceFault) → ◌≡◌ {A = Result ℕ PlaceFault} (Err f) (Err g) → g ≡ f
same_fault f g h = cc

-- a position that locates nothing has no spot
pub refused_spot : (e : RouteRow) (fault : PlaceFault) (r : Result (ℕ × ℕ) PlaceFault)
    → MatchResult r (λ x. ◌≡◌ {A = Result ℕ PlaceFault} (Err fault) (Ok (cell (length e.route.course) x))) (λ g. ◌≡◌ {A = Result ℕ PlaceFault} (Err fault) (Err g)) → in_cell e r ≡ Err (asked.Place fault)
refused_spot e fault (Ok x) h = absurd (cc h)
refused_spot e fault (Err g) h = ap (λ (f : PlaceFault). Err (asked.Place f)) (same_fault fault g h)

below : (k len : ℕ) → min k (len - 1) ≤ len
below k len = omega arith

some_is : (p q : Spot) → Some p ≡ Some q → p ≡ q
some_is p q h = cc

module _ (i : Image) (sound : IsSound i) (p : Spot) where
  at_chainage : (chainage : ℕ) (e : RouteRow) → IsRouteIn i e → spot_at (Chainage chainage) e ≡ Ok p → IsPlaceIn i p
  at_chainage chainage e known h = by (nat_lt (length e.route.course) chainage) refl h
    where
      by : (b : Bool) → nat_lt (length e.route.course) chainage ≡ b → cond b (Err (asked.Missing missing.Place)) (Ok (e, chainage)) ≡ Ok p → IsPlaceIn i p
      by true t k = absurd (cc k)
      by false t k = subst (IsPlaceIn i) (asked_ok (e, chainage) p k) (record { known = known; on_route = ltb-false (length e.route.course) chainage t })

  in_its_cell : (e : RouteRow) → IsRouteIn i e → (r : Result (ℕ × ℕ) PlaceFault) → in_cell e r ≡ Ok p → IsPlaceIn i p
  in_its_cell e known (Ok x) h = subst (IsPlaceIn i) (asked_ok (e, cell (length e.route.course) x) p h) (record { known = known; on_route = below (x.0 / x.1) (length e.route.course) })
  in_its_cell e known (Err fault) h = absurd (cc h)

  at_place : (place : Place) (e : RouteRow) → IsRouteIn i e → spot_at place e ≡ Ok p → IsPlaceIn i p
  at_place (Chainage c) e known h = at_chainage c e known h
  at_place (Position x) e known h = in_its_cell e known (located_or_fault (alignment_of e.route) (referent_at e.route.refs) x) h

  on_route : (name : Name) (place : Place) → spot_on_route i name place ≡ Ok p → IsPlaceIn i p
  on_route name place h = by (find (is_named name) i.routes) refl h
    where
      by : (o : Option RouteRow) → find (is_named name) i.routes ≡ o → option_map_or (spot_at place) o (Err (asked.Missing missing.Route)) ≡ Ok p → IsPlaceIn i p
      by None e k = absurd (cc k)
      by (Some r) e k = at_place place r (is_route_in i (is_named name) r sound e) k

  within_route : (m : Millimetre) (e : RouteRow) → IsRouteIn i e → place_within m e ≡ Some p → IsPlaceIn i p
  within_route m e known h = by (chainage_on e.route.course m) refl h
    where
      by : (o : Option ℕ) → chainage_on e.route.course m ≡ o → option_map (λ (at : ℕ). (e, at)) o ≡ Some p → IsPlaceIn i p
      by None t k = absurd (cc k)
      by (Some at) t k =
          let low = position_below (is_at m) e.route.course at (sym t) in
          subst (IsPlaceIn i) (some_is (e, at) p k) (record { known = known; on_route = omega (arith, low) })

  over : (m : Millimetre) → place_over i m ≡ Some p → IsPlaceIn i p
  over m h = by (find (λ e. runs_over e.route.course m) i.routes) refl h
    where
      by : (o : Option RouteRow) → find (λ e. runs_over e.route.course m) i.routes ≡ o → option_and_then (place_within m) o ≡ Some p → IsPlaceIn i p
      by None e k = absurd (cc k)
      by (Some r) e k = within_route m r (is_route_in i (λ e. runs_over e.route.course m) r sound e) k

  along : (link : Link) (mm : ℕ) → place_along i link mm ≡ Ok p → IsPlaceIn i p
  along link mm h = by (nat_lt link.length mm) (place_over i (link.number, min mm (link.length - 1))) refl h
    where
      by : (b : Bool) (o : Option Spot) → place_over i (link.number, min mm (link.length - 1)) ≡ o → cond b (Err missing.Place) (ok_or o missing.Place) ≡ Ok p → IsPlaceIn i p
      by true o e k = absurd (cc k)
      by false None e k = absurd (cc k)
      by false (Some q) e k = over (link.number, min mm (link.length - 1)) (e ∙ ap (λ (x : Spot). Some x) (ok_is q p k))

  on_link : (number mm : ℕ) → place_on_link i number mm ≡ Ok p → IsPlaceIn i p
  on_link number mm h = by (find (λ link. nat_eq link.number number) i.links) h
    where
      by : (o : Option Link) → option_map_or (λ (link : Link). place_along i link mm) o (Err missing.Link) ≡ Ok p → IsPlaceIn i p
      by None k = absurd (cc k)
      by (Some link) k = along link mm k

  pub is_place_in : (spot : AskedPlace) → place_of i spot ≡ Ok p → IsPlaceIn i p
  is_place_in (OnRoute route place) h = on_route route place h
  is_place_in (OnLink link mm) h = on_link link mm (was_ok (place_on_link i link mm) h)
    where
      was_ok : (r : Result Spot Missing) → unless_missing r ≡ Ok p → r ≡ Ok p
      was_ok (Ok q) k = ap Ok (asked_ok q p k)
      was_ok (Err what) k = absurd (cc k)
