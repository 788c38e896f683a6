-- A route's rows change in place, and nothing else of it.
use Rattle.std.proofs.Common.{◌≡◌, true, List, filter, Option, Some, refl, sym, ap, ◌∙◌}
use Rattle.std.specs.List as list
use Rattle.std.specs.FinMap.{find}
use Rattle.std.specs.List.{flat_map}
use Rattle.std.specs.Option.{option_map}
use Rattle.lrs_inventory.specs.Prelude.{each_two, insert_by, Name, name_cmp, is_route, Asset, Part, Gone, Span, span_before, are_rows, RouteRow, Image, state_of, referents_on, route_before, RouteChange, Difference, no_difference, is_named, without, entry_after, fits_after, CanDiffer}
use Rattle.lrs_measure.specs.OrderedLists.{insert_some}
use Rattle.lrs_measure.proofs.Filters.{filter_all}
use Rattle.lrs_events.specs.Changes.{changed}
use Rattle.lrs_image.specs.Change.{routes_after, are_rows_of}
use Rattle.lrs_image.proofs.Becoming.{has_become}
use Rattle.lrs_image_laws.specs.Differences.{no_change}
use Rattle.lrs_inventory.specs.Changes.{route_on}
use Rattle.lrs_inventory.proofs.KeptName.{keeps_name}
use Rattle.lrs_inventory.specs.Plans.{plan_of, TellsGround}
use Rattle.lrs_verbs.proofs.InPlace.{DifferAt, made_same, in_place, names_stay, ground_stays}

pub keep_all : {X : Type 0} (xs : List X) → filter (λ x. true) xs ≡ xs
keep_all xs = filter_all (λ x. true) xs (λ x m. refl)

-- a route of which these rows go and come
abbrev pub exchanging : Name → List Span → List Span → RouteChange
exchanging name gone come = record (no_change name) { spans_gone = gone; spans_come = come }

-- ... and an asset and the rows of the ledgers inserted with it
abbrev pub with_ledgers : Option Asset → RouteChange → List Part → List Gone → Difference
with_ledgers asset change entered gone = record no_difference { asset = asset; changed = Some change; entered = entered; gone = gone }

module _ (name : Name) (gone come : List Span) (r : RouteRow) (named : r.route.name ≡ name) where
  pub stays_fit : fits_after (exchanging name gone come) r.route ≡ true
  stays_fit = ap (is_route r.route.course r.route.marks) (keep_all r.route.refs) ∙ r.route.fits

  -- Only the rows change.
  pub entry_is : entry_after (exchanging name gone come) r ≡ record r { spans = changed span_before gone come r.spans }
  entry_is =
      let same = has_become (exchanging name gone come) r.route r.route stays_fit (record { name = named; course = refl; marks = refl; refs = sym (keep_all r.route.refs) }) in
      λ j. record { route = sym same j; spans = changed span_before gone come r.spans }

module _ (i : Image) (order : each_two route_before i.routes ≡ true) (name : Name) (gone come : List Span) (r : RouteRow) (named : r.route.name ≡ name) (found : list.find (is_named name) i.routes ≡ Some r)
    (spans : List Span) (rows_are : changed span_before gone come r.spans ≡ spans) where
  abbrev change : RouteChange
  change = exchanging name gone come

  abbrev new : RouteRow
  new = record r { spans = spans }

  abbrev new_routes : List RouteRow
  new_routes = insert_by route_before new (without name i.routes)

  pub routes_are : routes_after (Some change) i.routes ≡ new_routes
  routes_are =
      ap (λ o. insert_some route_before (option_map (entry_after change) o) (without name i.routes)) found
      ∙ ap (λ f. insert_by route_before f (without name i.routes)) (entry_is name gone come r named ∙ ap (λ rows. let e : RouteRow = record r { spans = rows } in e) rows_are)

  pub differ : DifferAt r new i.routes new_routes
  differ = in_place name r new refl i.routes order found

  some_is : (a b : RouteRow) → Some a ≡ Some b → a ≡ b
  some_is a b h = cc

  -- the plan of such a change
  module _ (asset : Option Asset) (entered : List Part) (went : List Gone) where
    pub can : are_rows spans ≡ true → each_two span_before gone ≡ true → are_rows_of r gone ≡ true → CanDiffer (with_ledgers asset change entered went) i
    can canonical in_order there = record {
      route = record { row = r; found = found; becomes = record { fits = stays_fit name gone come r named; rows = ap are_rows rows_are ∙ canonical; gone = in_order; there = there; named = refl; renamed = keeps_name change r refl } };
      apart = tt;
      whole = tt;
      names = ap (each_two route_before) routes_are ∙ names_stay r new i.routes new_routes differ refl order;
    }

    pub tells : TellsGround (plan_of (with_ledgers asset change entered went)) i
    unfolding state_of
    tells = record {
      ground = λ m. ap (λ (rs : List RouteRow). route_on rs m) routes_are ∙ ground_stays r new i.routes new_routes differ refl refl m;
      can_ground = tt;
      referents = λ q. ap (λ (rs : List RouteRow). find name_cmp q (flat_map referents_on rs)) routes_are ∙ ap (find name_cmp q) (made_same r new i.routes new_routes differ referents_on refl);
      new_referent = tt;
    }
